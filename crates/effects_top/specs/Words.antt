-- The command words.
use Rattle.std.specs.Borrow.{Bor}
use Rattle.std.specs.Prelude.{◌≡◌, true, ℕ, List, [], ◌∷◌, Option, Some, None, option_and_then, option_map, option_copied, unwrap_or, is_some, Bool, false, ◌&&◌, ◌==◌, not, nat_eq, nat_le, nat_lt, IsTrue, if◌then◌else◌, codes, length}
use Rattle.std.specs.Str.{bytes_eq}
use Rattle.std.specs.List.{position_or_len, before_first, after_first}
use Rattle.fx_base.specs.declared.settings.Settings.{Settings}
use Rattle.effects_top.specs.declared.words.Said.{Said as SaidWords}
use Rattle.effects_top.specs.declared.words.Command.{Command}
use Rattle.effects_top.specs.declared.words.Command.TheVariants as command
use Rattle.effects_top.specs.declared.words.Choice.{Choice}
use Rattle.effects_top.specs.declared.words.Choice.TheVariants.{Heap, Stack, Out, Budget, Domains, Turns}
use Rattle.effects_top.specs.Spelling.{are_digits, value_from}

-- a word can name a file: it isn't empty and doesn't begin with a dash
abbrev pub can_be_file : List ℕ → Bool
can_be_file [] = false
can_be_file (first ∷ rest) = not (nat_eq first 45)

-- the choice that an option makes
abbrev pub choice_of : List ℕ → Option Choice
choice_of word =
    if bytes_eq word (codes "--heap") then Some Heap else (
    if bytes_eq word (codes "--stack") then Some Stack else (
    if bytes_eq word (codes "--out") then Some Out else (
    if bytes_eq word (codes "--budget") then Some Budget else (
    if bytes_eq word (codes "--domains") then Some Domains else (
    if bytes_eq word (codes "--turns") then Some Turns else None)))))

-- the least number of a choice
abbrev pub least : Choice → ℕ
least Heap = 16384
least Stack = 256
least Out = 1024
least Budget = 1
least Domains = 1
least Turns = 1

-- the greatest number of a choice
abbrev pub most : Choice → ℕ
most Heap = 16777216
most Stack = 1048576
most Out = 67108864
most Budget = 4294967295
most Domains = 8
most Turns = 1000000

-- the number is one of the choice
abbrev pub is_of : Choice → ℕ → Bool
is_of choice n = nat_le (least choice) n && nat_le n (most choice)

-- the number that 1 to 10 decimal digits are, where it is in this range
abbrev pub number_within : ℕ → ℕ → List ℕ → Option ℕ
number_within low high text =
    if nat_lt 0 (length text) && nat_le (length text) 10 && are_digits text && (nat_le low (value_from 0 text) && nat_le (value_from 0 text) high) then Some (value_from 0 text) else None

-- the number, where it is one of the choice
abbrev pub number_of : Choice → List ℕ → Option ℕ
number_of choice text = number_within (least choice) (most choice) text

-- what words behind the command say
pub record Said : Type 0 where
  pub file : Option (List ℕ)
  pub heap : Option ℕ
  pub stack : Option ℕ
  pub out : Option ℕ
  pub budget : Option ℕ
  pub domains : Option ℕ
  pub turns : Option ℕ

abbrev pub seen_said : SaidWords → Said
seen_said s = record { file = option_copied s.file; heap = s.heap; stack = s.stack; out = s.out; budget = s.budget; domains = s.domains; turns = s.turns }

-- a number that was said is one of its choice
abbrev pub IsSaid : Choice → Option ℕ → Type 0
IsSaid choice None = Unit {0}
IsSaid choice (Some n) = IsTrue (is_of choice n)

-- each number that was said is one of its choice
pub record AreInRange (s : SaidWords) : Type 0 where
  pub heap : IsSaid Heap s.heap
  pub stack : IsSaid Stack s.stack
  pub out : IsSaid Out s.out
  pub budget : IsSaid Budget s.budget
  pub domains : IsSaid Domains s.domains
  pub turns : IsSaid Turns s.turns

abbrev pub nothing : Said
nothing = record { file = None; heap = None; stack = None; out = None; budget = None; domains = None; turns = None }

-- what nothing was said of is said now; nothing is said twice
abbrev pub said_once : {A : Type 0} → Option A → A → (Option A → Said) → Option Said
said_once None a said = Some (said (Some a))
said_once (Some earlier) a said = None

-- one more choice
abbrev pub choose : Choice → ℕ → Said → Option Said
choose Heap n s = said_once s.heap n (λ o. record s { heap = o })
choose Stack n s = said_once s.stack n (λ o. record s { stack = o })
choose Out n s = said_once s.out n (λ o. record s { out = o })
choose Budget n s = said_once s.budget n (λ o. record s { budget = o })
choose Domains n s = said_once s.domains n (λ o. record s { domains = o })
choose Turns n s = said_once s.turns n (λ o. record s { turns = o })

-- an option and its number
abbrev pub with_option : List ℕ → List ℕ → Said → Option Said
with_option name text s = option_and_then (λ choice. option_and_then (λ n. choose choice n s) (number_of choice text)) (choice_of name)

-- the file
abbrev pub with_file : List ℕ → Said → Option Said
with_file file s = said_once s.file file (λ o. record s { file = o })

abbrev pub is_equals : ℕ → Bool
is_equals b = b == 61

-- an option and its number in one word, as `--heap=20000`
abbrev pub is_joined : List ℕ → Bool
is_joined word = nat_lt (position_or_len is_equals word) (length word)

-- the option and the number of a word
pub record IsJoinedOf (word : List ℕ) (parts : Bor (List ℕ) × Bor (List ℕ)) : Type 0 where
  pub joined : is_joined word ≡ true
  pub name : parts.0.now ≡ before_first is_equals word
  pub text : parts.1.now ≡ after_first is_equals word

abbrev pub with_joined : List ℕ → Said → Option Said
with_joined word s = with_option (before_first is_equals word) (after_first is_equals word) s

-- the words behind the command, from left to right, behind what was said before: files, and options with their numbers in one
-- word or in two
abbrev pub said_by : List (List ℕ) → Said → Option Said
said_by [] s = Some s
said_by (word ∷ []) s =
    if can_be_file word then option_and_then (said_by []) (with_file word s)
    else if is_joined word then option_and_then (said_by []) (with_joined word s) else None
said_by (word ∷ text ∷ words) s =
    if can_be_file word then option_and_then (said_by (text ∷ words)) (with_file word s)
    else if is_joined word then option_and_then (said_by (text ∷ words)) (with_joined word s)
    else option_and_then (said_by words) (with_option word text s)

-- the numbers of settings
pub record Numbers : Type 0 where
  pub heap : ℕ
  pub stack : ℕ
  pub out : ℕ
  pub budget : ℕ
  pub domains : ℕ

abbrev pub numbers_of : Settings → Numbers
numbers_of s = record { heap = s.heap; stack = s.stack; out = s.out; budget = s.budget; domains = s.domains }

-- the numbers that were said, and the usual ones of which nothing was said
abbrev pub numbers_said : Said → Numbers
numbers_said s =
    record {
      heap = unwrap_or s.heap 1048576;
      stack = unwrap_or s.stack 131072;
      out = unwrap_or s.out 1048576;
      budget = unwrap_or s.budget 1073741824;
      domains = unwrap_or s.domains 4;
    }

-- what the command words ask for: whether the text of a file is a program, the listing of a file's image, a run of a file's program
-- in turns of so many instructions, the text of a made program, or a run of it
pub data Asked : Type 0 where
  Check : (file : List ℕ) → Asked
  Assemble : (file : List ℕ) (numbers : Numbers) → Asked
  Run : (file : List ℕ) (numbers : Numbers) (turns : ℕ) → Asked
  Make : (number : ℕ) → Asked
  Demo : (number : ℕ) → Asked

abbrev pub seen_command : Command → Asked
seen_command (command.Check file) = Check file.now
seen_command (command.Assemble file settings) = Assemble file.now (numbers_of settings)
seen_command (command.Run file settings turns) = Run file.now (numbers_of settings) turns.count
seen_command (command.Make number) = Make number.count
seen_command (command.Demo number) = Demo number.count

-- `check` takes a file and no options
abbrev pub asked_check : List (List ℕ) → Option Asked
asked_check (file ∷ []) = if can_be_file file then Some (Check file) else None
asked_check _ = None

-- `asm` takes no turns
abbrev pub asked_listing : Said → Option Asked
asked_listing s = if is_some s.turns then None else option_map (λ file. Assemble file (numbers_said s)) s.file

abbrev pub asked_run : Said → Option Asked
asked_run s = option_map (λ file. Run file (numbers_said s) (unwrap_or s.turns 1000)) s.file

-- `make` and `demo` take the number of a made program and no options
abbrev pub number_alone : List (List ℕ) → Option ℕ
number_alone (text ∷ []) = number_within 1 500 text
number_alone _ = None

-- what the words ask for; none where they have no reading
abbrev pub asked : List (List ℕ) → Option Asked
asked [] = None
asked (command ∷ words) =
    if bytes_eq command (codes "check") then asked_check words
    else if bytes_eq command (codes "asm") then option_and_then asked_listing (said_by words nothing)
    else if bytes_eq command (codes "run") then option_and_then asked_run (said_by words nothing)
    else if bytes_eq command (codes "make") then option_map Make (number_alone words)
    else if bytes_eq command (codes "demo") then option_map Demo (number_alone words) else None

-- the file that a command names; a made program stands in none
abbrev pub file_of : Asked → Option (List ℕ)
file_of (Check file) = Some file
file_of (Assemble file numbers) = Some file
file_of (Run file numbers turns) = Some file
file_of (Make number) = None
file_of (Demo number) = None

-- the settings of a command that compiles; the others have the usual ones
abbrev pub numbers_asked : Asked → Numbers
numbers_asked (Check file) = numbers_said nothing
numbers_asked (Assemble file numbers) = numbers
numbers_asked (Run file numbers turns) = numbers
numbers_asked (Make number) = numbers_said nothing
numbers_asked (Demo number) = numbers_said nothing
