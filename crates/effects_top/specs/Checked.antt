-- What it means that a text is a program, and why a file is refused: by `check`, and by the commands that compile it.
use Rattle.std.specs.Prelude.{◌≡◌, ◌≤◌, ◌⊎◌, ℕ, List}
use Rattle.fx_base.specs.Faults.{Rose}
use Rattle.fx_base.specs.declared.refusal.Refusal.{Refusal}
use Rattle.fx_base.specs.declared.refusal.Refusal.TheVariants.{Usage, File, Syntax, Name, IllTyped, Limit, Memory}
use Rattle.ml_lexer.specs.Lexeme.{LexedText}
use Rattle.ml_lexer.specs.Lexes.{Lexes, FaultsAt, place_after, first_place}
use Rattle.ml_syntax.specs.declared.prog.Prog.{Prog}
use Rattle.ml_syntax.specs.Depth.{depth}
use Rattle.ml_parser.specs.Parsed.{Parsed, Refused}
use Rattle.ml_infer.specs.Refused.{IsTypeOrMemory}
use Rattle.image_build.specs.Building.{IsBuildRefusal}
use Rattle.effects_top.specs.Source.{source_limit}
use Rattle.effects_top.specs.Expression.{Expression}
use Rattle.effects_top.specs.Form.{IsFormOf}
use Rattle.effects_top.specs.Words.{Asked, Check, Assemble, Run, Make, Demo}

-- these are the tokens of a text, and the place behind it
pub record IsLexed (bytes : List ℕ) (text : LexedText) : Type 0 where
  pub lexes : Lexes bytes text.lexemes
  pub ending : text.ending ≡ place_after first_place bytes

-- the text is read as this program, which isn't too deep
pub record IsReadAs (bytes : List ℕ) (prog : Prog) : Type 0 where
  pub text : LexedText
  pub lexed : IsLexed bytes text
  pub parsed : Parsed text prog
  pub shallow : depth prog.nodes ≤ 400

-- the text is read as a program
abbrev pub IsRead : List ℕ → Type 0
IsRead bytes = (prog : Prog) × IsReadAs bytes prog

-- the parser refuses the tokens of the text
pub record IsUnread (bytes : List ℕ) (refusal : Refusal) : Type 0 where
  pub text : LexedText
  pub lexed : IsLexed bytes text
  pub refused : Refused text refusal

-- why a text doesn't pass `check`: it has no tokens, or they are read as no program, or as one that is too deep; or it is read as
-- a program in which a name breaks a rule, the types have a fault, or a type has more than 4,096 nodes
abbrev pub IsBreach : List ℕ → Refusal → Type 0
IsBreach bytes (Syntax place) = FaultsAt bytes place ⊎ IsUnread bytes (Syntax place)
IsBreach bytes (Limit kind found bound) = IsUnread bytes (Limit kind found bound) ⊎ (IsTypeOrMemory (Limit kind found bound) × IsRead bytes)
IsBreach bytes (Name place) = IsRead bytes
IsBreach bytes (IllTyped place) = IsRead bytes
IsBreach bytes Memory = Unit {0}
IsBreach bytes Usage = ⊥
IsBreach bytes File = ⊥

-- the text is read as a program that isn't of the form `let () = print_int A`
pub record IsUncompiled (bytes : List ℕ) : Type 0 where
  pub read : IsRead bytes
  pub other_form : (e : Expression) → IsFormOf bytes e → ⊥

-- why a text isn't compiled: it doesn't pass `check`, or it is read as a program of another form that isn't built
abbrev pub IsCompileBreach : List ℕ → Refusal → Type 0
IsCompileBreach bytes refusal = IsBreach bytes refusal ⊎ (IsBuildRefusal refusal × IsUncompiled bytes)

-- why a file is refused, of which so many bytes were taken while its faults went from the first number to the second: reading
-- failed, it has too many bytes, or this is wrong with its text
abbrev pub IsCause : (Refusal → Type 0) → (taken faults faults' : ℕ) → Refusal → Type 0
IsCause IsWrong taken faults faults' refusal =
    ((refusal ≡ File) × Rose faults faults') ⊎ ((refusal ≡ source_limit) × (taken ≡ 1048577)) ⊎ IsWrong refusal

-- what may be wrong with the text of the file that a command names
abbrev pub IsWrongFor : Asked → List ℕ → Refusal → Type 0
IsWrongFor (Check file) = IsBreach
IsWrongFor (Assemble file numbers) = IsCompileBreach
IsWrongFor (Run file numbers turns) = IsCompileBreach
IsWrongFor (Make number) = λ bytes refusal. ⊥
IsWrongFor (Demo number) = λ bytes refusal. ⊥

-- which refusals a file may get at all
abbrev pub IsFileRefusal : Refusal → Type 0
IsFileRefusal Usage = ⊥
IsFileRefusal _ = Unit {0}
