-- The form that compiles: `let () = print_int A`.
use Rattle.std.specs.Prelude.{◌≡◌, ◌≤◌, ℕ, suc, ◌+◌, List, [], ◌∷◌, Option, Some, None}
use Rattle.effects_top.specs.declared.token.Token.{Token}
use Rattle.effects_top.specs.declared.token.Token.TheVariants as token
use Rattle.effects_top.specs.declared.reader.Arith.{Arith}
use Rattle.effects_top.specs.declared.reader.Arith.TheVariants.{Plus, Minus, Times}
use Rattle.effects_top.specs.Expression.{Expression, Number, Binary}
use Rattle.effects_top.specs.Spelling.{Spells}

-- literals and brackets; products of such; sums and differences of products
pub data Level : Type 0 where
  Atom : Level
  Product : Level
  Sum : Level

-- the level of the right operand
abbrev pub part : Level → Level
part Atom = Atom
part Product = Atom
part Sum = Product

-- the operation that a token stands for at a level
abbrev pub operator : Level → Token → Option Arith
operator Atom t = None
operator Product token.Times = Some Times
operator Product t = None
operator Sum token.Plus = Some Plus
operator Sum token.Minus = Some Minus
operator Sum t = None

-- the tokens up to the rest are an expression of the level, with at most so many brackets round one another
pub data Derives : Level → ℕ → List Token → List Token → Expression → Type 0 where
  literal : {room : ℕ} {rest : List Token} {n : ℕ} → Derives Atom room (token.Literal n ∷ rest) rest (Number n)
  bracket : {room : ℕ} {inner rest : List Token} {e : Expression} → Derives Sum room inner (token.Close ∷ rest) e → Derives Atom (suc room) (token.Open ∷ inner) rest e
  factor : {room : ℕ} {tokens rest : List Token} {e : Expression} → Derives Atom room tokens rest e → Derives Product room tokens rest e
  summand : {room : ℕ} {tokens rest : List Token} {e : Expression} → Derives Product room tokens rest e → Derives Sum room tokens rest e
  binary : {level : Level} {room : ℕ} {tokens right rest : List Token} {t : Token} {operation : Arith} {a b : Expression} → operator level t ≡ Some operation
      → Derives level room tokens (t ∷ right) a → Derives (part level) room right rest b → Derives level room tokens rest (Binary operation a b)

-- the tokens of a file of the form
abbrev pub DerivesFile : List Token → Expression → Type 0
DerivesFile tokens e =
    (a : List Token) × (tokens ≡ token.Let ∷ token.Open ∷ token.Close ∷ token.Equals ∷ token.PrintInt ∷ a) × Derives Atom 100 a [] e

-- how many literals an expression has
abbrev pub literals : Expression → ℕ
literals (Number n) = 1
literals (Binary operation a b) = literals a + literals b

-- the bytes are a file of the form, which prints the expression
pub record IsFormOf (bytes : List ℕ) (e : Expression) : Type 0 where
  pub tokens : List Token
  pub spelled : Spells bytes tokens
  pub derived : DerivesFile tokens e
  pub few : literals e ≤ 1000

-- the text is of the form
pub record IsOfForm (bytes : List ℕ) : Type 0 where
  pub expression : Expression
  pub form : IsFormOf bytes expression
