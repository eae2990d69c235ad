-- Why a text is refused.
use Rattle.std.specs.Prelude.{ℕ, List}
use Rattle.fx_base.specs.declared.refusal.Refusal.{Refusal}
use Rattle.fx_base.specs.declared.refusal.Refusal.TheVariants.{Syntax, Memory}
use Rattle.ml_lexer.specs.Lexes.{FaultsAt}

-- the refusal names the place of the first fault, or says that memory is not there
abbrev pub IsRefused : List ℕ → Refusal → Type 0
IsRefused bytes (Syntax place) = FaultsAt bytes place
IsRefused bytes Memory = Unit {0}
IsRefused bytes _ = ⊥

-- the refusal is of the text, and not for want of memory
abbrev pub IsSyntax : Refusal → Type 0
IsSyntax (Syntax place) = Unit {0}
IsSyntax _ = ⊥
