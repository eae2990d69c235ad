-- What reading some tokens gives.
use Rattle.std.specs.Prelude.{◌≡◌, ℕ, List, [], ◌∷◌, ◌++◌, Option, Some, None}
use Rattle.effects_top.specs.declared.token.Token.{Token}
use Rattle.effects_top.specs.declared.reader.Arith.{Arith}
use Rattle.effects_top.specs.declared.reader.Postfix.{Postfix}
use Rattle.effects_top.specs.Expression.{Expression, postfix_of}
use Rattle.effects_top.specs.Form.{Level, Atom, Product, Sum, operator, Derives, DerivesFile}

-- the operation with which tokens go on at a level
abbrev pub operator_at : Level → List Token → Option Arith
operator_at level [] = None
operator_at level (t ∷ ts) = operator level t

-- an operator of the level stands at the front of these tokens
abbrev pub IsOperator : Level → List Token → Arith → List Token → Type 0
IsOperator level tokens operation right = (t : Token) × (tokens ≡ t ∷ right) × (operator level t ≡ Some operation)

-- what was read can't go on with these tokens
abbrev pub Ends : Level → List Token → Type 0
Ends Atom ts = Unit {0}
Ends Product ts = operator_at Product ts ≡ None
Ends Sum ts = (operator_at Product ts ≡ None) × (operator_at Sum ts ≡ None)

-- an expression was read, it and the rest are the only ones, and its postfix order stands behind what was there
pub record Reads (level : Level) (room : ℕ) (tokens rest : List Token) (before after : List Postfix) : Type 0 where
  pub e : Expression
  pub derives : Derives level room tokens rest e
  pub ends : Ends level rest
  pub postfix : after ≡ before ++ postfix_of e
  pub only : (other : List Token) (f : Expression) → Derives level room tokens other f → Ends level other → (other ≡ rest) × (f ≡ e)

-- no expression stands at the front
abbrev pub Unread : Level → ℕ → List Token → Type 0
Unread level room tokens = (rest : List Token) (e : Expression) → Derives level room tokens rest e → Ends level rest → ⊥

-- the one expression of a file's tokens, in postfix order behind what was there
pub record ReadsFile (tokens : List Token) (before after : List Postfix) : Type 0 where
  pub e : Expression
  pub derives : DerivesFile tokens e
  pub postfix : after ≡ before ++ postfix_of e
  pub only : (f : Expression) → DerivesFile tokens f → f ≡ e
