-- The forms of lexemes, and the longest one at the front of a text.
use Rattle.std.specs.Prelude.{◌≡◌, ℕ, ◌≤◌, ◌⊎◌, Bool, true, false, ◌==◌, ◌&&◌, ◌||◌, List, [], ◌∷◌, ◌++◌, length, IsSome}
use Rattle.ml_lexer.specs.declared.bytes.Class.TheVariants.{Letter, Digit, Quote}
use Rattle.ml_lexer.specs.declared.form.Form.{Form}
use Rattle.ml_lexer.specs.declared.form.Form.TheVariants.{Word, Number, Character, Variable, Text, Symbol}
use Rattle.ml_lexer.specs.Bytes.{class, continues_name, begins_lower, is_digit, in_base, is_plain, is_plain_character, is_escaped, is_escaped_in_string, is_code}
use Rattle.ml_lexer.specs.Tables.{kind_in, single_symbols, double_symbols}

-- each byte passes
abbrev pub AllPass : (ℕ → Bool) → List ℕ → Type 0
AllPass p [] = Unit {0}
AllPass p (b ∷ bs) = (p b ≡ true) × AllPass p bs

-- a digit, or `_`
abbrev pub or_underscore : (ℕ → Bool) → ℕ → Bool
or_underscore p b = if_score (b == 95)
  where
    if_score : Bool → Bool
    if_score true = true
    if_score false = p b

-- a digit, and digits and `_`
abbrev pub IsDecimal : List ℕ → Type 0
IsDecimal [] = ⊥
IsDecimal (d ∷ bs) = (class d ≡ Digit) × AllPass (or_underscore is_digit) bs

-- `0`, the letter of a base, a digit of it, and such digits and `_`
abbrev pub IsBased : List ℕ → Type 0
IsBased (z ∷ x ∷ d ∷ bs) = ((z == 48) ≡ true) × (in_base x d ≡ true) × AllPass (or_underscore (in_base x)) bs
IsBased _ = ⊥

-- `'`, a byte that stands for itself, and `'`
abbrev pub is_plain_literal : List ℕ → Bool
is_plain_literal (q ∷ b ∷ r ∷ []) = (q == 39) && is_plain_character b && (r == 39)
is_plain_literal _ = false

-- `'`, a `\` and one byte, and `'`
abbrev pub is_short_literal : List ℕ → Bool
is_short_literal (q ∷ e ∷ c ∷ r ∷ []) = (q == 39) && (e == 92) && is_escaped c && (r == 39)
is_short_literal _ = false

-- `'`, a `\` and three bytes, and `'`
abbrev pub is_coded_literal : List ℕ → Bool
is_coded_literal (q ∷ e ∷ a ∷ b ∷ c ∷ r ∷ []) = (q == 39) && (e == 92) && is_code a b c && (r == 39)
is_coded_literal _ = false

abbrev pub is_character : List ℕ → Bool
is_character t = is_plain_literal t || is_short_literal t || is_coded_literal t

-- `'`, and a name that begins with a lower-case letter or `_`
abbrev pub IsVariable : List ℕ → Type 0
IsVariable (q ∷ b ∷ bs) = ((q == 39) ≡ true) × (begins_lower b ≡ true) × AllPass continues_name bs
IsVariable _ = ⊥

-- the parts of a string, and the `"` at its end
pub data Parts : List ℕ → Type 0 where
  close : {q : ℕ} → (q == 34) ≡ true → Parts (q ∷ [])
  plain : {b : ℕ} {bs : List ℕ} → is_plain b ≡ true → Parts bs → Parts (b ∷ bs)
  short : {e c : ℕ} {bs : List ℕ} → (e == 92) ≡ true → is_escaped_in_string c ≡ true → Parts bs → Parts (e ∷ c ∷ bs)
  code : {e a b c : ℕ} {bs : List ℕ} → (e == 92) ≡ true → is_code a b c ≡ true → Parts bs → Parts (e ∷ a ∷ b ∷ c ∷ bs)

-- one or two bytes that a table of symbols has
abbrev pub IsSymbol : List ℕ → Type 0
IsSymbol (a ∷ []) = IsSome (kind_in single_symbols (a ∷ []))
IsSymbol (a ∷ b ∷ []) = IsSome (kind_in double_symbols (a ∷ b ∷ []))
IsSymbol _ = ⊥

-- the bytes have the form
abbrev pub HasForm : Form → List ℕ → Type 0
HasForm f [] = ⊥
HasForm Word (b ∷ bs) = (class b ≡ Letter) × AllPass continues_name bs
HasForm Number (b ∷ bs) = IsDecimal (b ∷ bs) ⊎ IsBased (b ∷ bs)
HasForm Character (b ∷ bs) = is_character (b ∷ bs) ≡ true
HasForm Variable (b ∷ bs) = IsVariable (b ∷ bs)
HasForm Text (b ∷ bs) = (class b ≡ Quote) × Parts bs
HasForm Symbol (b ∷ bs) = IsSymbol (b ∷ bs)

-- the front of a text has the form; a type variable is none where some front is a character literal
abbrev pub IsFront : Form → List ℕ → List ℕ → Type 0
IsFront Variable t rest = IsVariable t × ((c after : List ℕ) → t ++ rest ≡ c ++ after → HasForm Character c → ⊥)
IsFront f t rest = HasForm f t

-- the longest lexeme at the front: no other front of the text has a form and is longer
pub record IsLongest (f : Form) (text rest : List ℕ) : Type 0 where
  pub form : IsFront f text rest
  pub longest : (g : Form) (other after : List ℕ) → text ++ rest ≡ other ++ after → IsFront g other after → length other ≤ length text
