-- How a text spells tokens.
use Rattle.std.specs.Prelude.{◌≡◌, ◌≤◌, ℕ, ◌+◌, ◌*◌, ◌-◌, Bool, true, false, ◌&&◌, ◌||◌, ◌==◌, nat_le, List, [], ◌∷◌, ◌++◌, codes}
use Rattle.effects_top.specs.declared.token.Token.{Token}
use Rattle.effects_top.specs.declared.token.Token.TheVariants.{Let, PrintInt, Open, Close, Equals, Plus, Minus, Times, Literal}

-- a space, a tab or a newline
abbrev pub is_blank : ℕ → Bool
is_blank b = (b == 32) || (b == 9) || (b == 10)

abbrev pub is_digit : ℕ → Bool
is_digit b = nat_le 48 b && nat_le b 57

-- a letter, a digit or `_`
abbrev pub is_word : ℕ → Bool
is_word b = (nat_le 97 b && nat_le b 122) || (nat_le 65 b && nat_le b 90) || is_digit b || (b == 95)

abbrev pub are_digits : List ℕ → Bool
are_digits [] = true
are_digits (d ∷ ds) = is_digit d && are_digits ds

-- the value of digits that stand behind a number
abbrev pub value_from : ℕ → List ℕ → ℕ
value_from n [] = n
value_from n (d ∷ ds) = value_from (n * 10 + (d - 48)) ds

-- at least one decimal digit, and their value, which is an integer
abbrev pub IsDecimal : List ℕ → ℕ → Type 0
IsDecimal [] n = ⊥
IsDecimal (d ∷ ds) n = (are_digits (d ∷ ds) ≡ true) × (value_from 0 (d ∷ ds) ≡ n) × (n ≤ 4611686018427387903)

-- the text is one of the token
abbrev pub IsSpelling : List ℕ → Token → Type 0
IsSpelling text Let = text ≡ codes "let"
IsSpelling text PrintInt = text ≡ codes "print_int"
IsSpelling text Open = text ≡ codes "("
IsSpelling text Close = text ≡ codes ")"
IsSpelling text Equals = text ≡ codes "="
IsSpelling text Plus = text ≡ codes "+"
IsSpelling text Minus = text ≡ codes "-"
IsSpelling text Times = text ≡ codes "*"
IsSpelling text (Literal n) = IsDecimal text n

-- the first byte belongs to a word or a literal
abbrev pub begins_word : List ℕ → Bool
begins_word [] = false
begins_word (b ∷ bs) = is_word b

-- the text is made of spellings of the tokens with blanks between, where no word or literal directly follows another
pub data Spells : List ℕ → List Token → Type 0 where
  ended : Spells [] []
  blank : {b : ℕ} {bs : List ℕ} {ts : List Token} → is_blank b ≡ true → Spells bs ts → Spells (b ∷ bs) ts
  spelled : {bytes rest : List ℕ} {t : Token} {ts : List Token} → (text : List ℕ) → bytes ≡ text ++ rest → IsSpelling text t
      → (begins_word text && begins_word rest) ≡ false → Spells rest ts → Spells bytes (t ∷ ts)
