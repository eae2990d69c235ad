-- What the words behind the command say, argument by argument.
use Rattle.std.proofs.Common.{◌≡◌, ℕ, ◌<◌, true, false, List, [], ◌∷◌, Option, Some, None, length, refl, sym, ap, ◌∙◌, arith}
use Rattle.std.specs.Borrow.{Bor}
use Rattle.std.specs.Prelude.{MatchOption, option_map, option_and_then}
use Rattle.std.specs.List.{position_or_len, before_first, after_first}
use Rattle.std.proofs.lemmas.Bool.{lt-ltb, le-ltb}
use Rattle.std.proofs.lemmas.Str.Pattern.{IsSplitOnceResult, split_once_first}
use Rattle.effects_top.specs.declared.words.Said.{Said as SaidWords}
use Rattle.effects_top.specs.Words.{Numbers, Asked, Run, Demo, file_of, Said, seen_said, can_be_file, is_equals, is_joined, IsJoinedOf, with_file, with_option, with_joined, said_by}

-- what a call said, where it said something
pub says : (call : Option SaidWords) (after : SaidWords) (said : Option Said) → option_map seen_said call ≡ said → call ≡ Some after → said ≡ Some (seen_said after)
says call after said e is = sym e ∙ ap (option_map seen_said) is

-- a file at the front
pub said_file : (word : List ℕ) (words : List (List ℕ)) (s : Said) → can_be_file word ≡ true → said_by (word ∷ words) s ≡ option_and_then (said_by words) (with_file word s)
said_file word [] s is = rw is refl
said_file word (text ∷ words) s is = rw is refl

-- an option and its number in one word
pub said_joined : (word : List ℕ) (words : List (List ℕ)) (s : Said) → can_be_file word ≡ false → is_joined word ≡ true → said_by (word ∷ words) s ≡ option_and_then (said_by words) (with_joined word s)
said_joined word [] s is joined = rw (is, joined) refl
said_joined word (text ∷ words) s is joined = rw (is, joined) refl

-- an option and its number in two words
pub said_option : (word text : List ℕ) (words : List (List ℕ)) (s : Said) → can_be_file word ≡ false → is_joined word ≡ false → said_by (word ∷ text ∷ words) s ≡ option_and_then (said_by words) (with_option word text s)
said_option word text words s is joined = rw (is, joined) refl

-- an option without a number
pub said_alone : (word : List ℕ) (s : Said) → can_be_file word ≡ false → is_joined word ≡ false → said_by (word ∷ []) s ≡ None
said_alone word s is joined = rw (is, joined) refl

-- where a word is cut at the first `=`
pub joined_at : (word : List ℕ) (r : Option (Bor (List ℕ) × Bor (List ℕ))) → IsSplitOnceResult 61 word r → MatchOption r (is_joined word ≡ false) (IsJoinedOf word)
joined_at word r cut = by r (split_once_first 61 word r cut (omega arith))
  where
    by : (o : Option (Bor (List ℕ) × Bor (List ℕ))) → MatchOption o (position_or_len is_equals word ≡ length word) (λ x. (position_or_len is_equals word < length word) × (x.0.now ≡ before_first is_equals word) × (x.1.now ≡ after_first is_equals word)) → MatchOption o (is_joined word ≡ false) (IsJoinedOf word)
    by None e = le-ltb (position_or_len is_equals word) (length word) (omega (arith, e))
    by (Some x) h = record { joined = lt-ltb _ _ h.0; name = h.1; text = h.2 }

-- what follows an option and its number in one word
pub after_joined : (front seen word : List ℕ) (parts : Bor (List ℕ) × Bor (List ℕ)) (words : List (List ℕ)) (s : Said) (option : Option Said) → front ≡ word → seen ≡ word → can_be_file front ≡ false → IsJoinedOf seen parts
    → option ≡ with_option parts.0.now parts.1.now s → said_by (word ∷ words) s ≡ option_and_then (said_by words) option
after_joined front seen word parts words s option same same' apart joined said =
    said_joined word words s (rw same at apart) (rw same' at joined.joined)
    ∙ ap (option_and_then (said_by words))
    (rw (joined.name ∙ ap (before_first is_equals) same', joined.text ∙ ap (after_first is_equals) same') at (sym said))

-- what follows an option and its number in two words
pub after_option : (front seen word text number name : List ℕ) (words : List (List ℕ)) (s : Said) (option : Option Said) → front ≡ word → seen ≡ word → name ≡ word → number ≡ text → can_be_file front ≡ false → is_joined seen ≡ false
    → option ≡ with_option name number s → said_by (word ∷ text ∷ words) s ≡ option_and_then (said_by words) option
after_option front seen word text number name words s option same same' named numbered apart alone said =
    said_option word text words s (rw same at apart) (rw same' at alone)
    ∙ ap (option_and_then (said_by words)) (rw (named, numbered) at (sym said))

-- the file of a command
pub asked_file : (o : Option Asked) (mine : Asked) (file named : List ℕ) → Some mine ≡ o → file_of mine ≡ Some file → option_and_then file_of o ≡ Some named → file ≡ named
asked_file o mine file named is mine_names names = let e : Some file ≡ Some named = sym mine_names ∙ ap (option_and_then file_of) is ∙ names in cc

-- the turns of a run
pub run_turns_are : (o : Option Asked) (file file' : List ℕ) (numbers numbers' : Numbers) (turns turns' : ℕ) → Some (Run file numbers turns) ≡ o → o ≡ Some (Run file' numbers' turns') → turns ≡ turns'
run_turns_are o file file' numbers numbers' turns turns' is asks = let e : Some (Run file numbers turns) ≡ Some (Run file' numbers' turns') = is ∙ asks in cc

-- the number of a made program that is run
pub demo_number_is : (o : Option Asked) (number number' : ℕ) → Some (Demo number) ≡ o → o ≡ Some (Demo number') → number ≡ number'
demo_number_is o number number' is asks = let e : Some (Demo number) ≡ Some (Demo number') = is ∙ asks in cc
