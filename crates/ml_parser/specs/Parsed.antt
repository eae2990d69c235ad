-- What parsing answers.
use Rattle.std.specs.Prelude.{◌≡◌, ◌<◌, List, Option, Some, Result, Ok, Err}
use Rattle.fx_base.specs.declared.refusal.LimitKind.TheVariants as limits
use Rattle.fx_base.specs.declared.refusal.Refusal.{Refusal}
use Rattle.fx_base.specs.declared.refusal.Refusal.TheVariants.{Syntax, Limit, Memory}
use Rattle.ml_lexer.specs.Lexeme.{LexedText}
use Rattle.ml_syntax.specs.declared.prog.Prog.{Prog}
use Rattle.ml_syntax.specs.Depth.{depth}
use Rattle.ml_builder.specs.declared.reduction.Reduction.{Reduction}
use Rattle.ml_builder.specs.Reduced.{program}
use Rattle.ml_parser.specs.Reading.{reading}

-- the program is the one that the reductions of the text build
pub record Parsed (text : LexedText) (prog : Prog) : Type 0 where
  pub reductions : List Reduction
  pub read : reading text ≡ Ok reductions
  pub built : program text.lexemes reductions ≡ Some prog

-- the program has a depth above 400, which is found
abbrev pub IsTooDeep : Prog → Refusal → Type 0
IsTooDeep prog (Limit kind found bound) = (kind ≡ limits.Depth) × (bound ≡ 400) × (400 < found) × (depth prog.nodes ≡ found)
IsTooDeep prog _ = ⊥

-- a fault stands where reading stops; a limit is that of the program that the text is
abbrev pub Refused : LexedText → Refusal → Type 0
Refused text (Syntax place) = reading text ≡ Err place
Refused text Memory = Unit {0}
Refused text (Limit kind found bound) = (prog : Prog) × Parsed text prog × IsTooDeep prog (Limit kind found bound)
Refused text _ = ⊥
