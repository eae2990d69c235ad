-- Comments, which nest.
use Rattle.std.specs.Prelude.{◌≡◌, ℕ, suc, Bool, true, false, ◌==◌, ◌&&◌, List, ◌∷◌, ◌++◌}
use Rattle.ml_lexer.specs.declared.form.Form.TheVariants.{Character, Text}
use Rattle.ml_lexer.specs.Forms.{HasForm}

abbrev pub opens_comment : List ℕ → Bool
opens_comment (a ∷ b ∷ bs) = (a == 40) && (b == 42)
opens_comment _ = false

abbrev pub closes_comment : List ℕ → Bool
closes_comment (a ∷ b ∷ bs) = (a == 42) && (b == 41)
closes_comment _ = false

abbrev pub quotes : List ℕ → Bool
quotes (b ∷ bs) = b == 34
quotes _ = false

-- no front of the text is a character literal
abbrev pub BeginsNoCharacter : List ℕ → Type 0
BeginsNoCharacter bs = (c after : List ℕ) → bs ≡ c ++ after → HasForm Character c → ⊥

-- from here, inside so many comments, the outermost one ends before the rest
pub data Inside : ℕ → List ℕ → List ℕ → Type 0 where
  outside : {rest : List ℕ} → Inside 0 rest rest
  deeper : {d a b : ℕ} {bs rest : List ℕ} → opens_comment (a ∷ b ∷ bs) ≡ true → Inside (suc (suc d)) bs rest → Inside (suc d) (a ∷ b ∷ bs) rest
  ends : {d a b : ℕ} {bs rest : List ℕ} → closes_comment (a ∷ b ∷ bs) ≡ true → Inside d bs rest → Inside (suc d) (a ∷ b ∷ bs) rest
  quoted : {d : ℕ} {bs rest : List ℕ} (text after : List ℕ) → HasForm Text text → bs ≡ text ++ after → Inside (suc d) after rest → Inside (suc d) bs rest
  literal : {d : ℕ} {bs rest : List ℕ} (text after : List ℕ) → HasForm Character text → bs ≡ text ++ after → Inside (suc d) after rest → Inside (suc d) bs rest
  other : {d b : ℕ} {bs rest : List ℕ} → opens_comment (b ∷ bs) ≡ false → closes_comment (b ∷ bs) ≡ false → quotes (b ∷ bs) ≡ false → BeginsNoCharacter (b ∷ bs) → Inside (suc d) bs rest → Inside (suc d) (b ∷ bs) rest

-- a comment, up to the rest of the text
abbrev pub IsComment : List ℕ → List ℕ → Type 0
IsComment (a ∷ b ∷ bs) rest = (opens_comment (a ∷ b ∷ bs) ≡ true) × Inside 1 (bs ++ rest) rest
IsComment _ rest = ⊥
