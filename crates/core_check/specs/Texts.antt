-- Texts that are told apart, each with a number that it belongs to.
use Rattle.std.specs.Prelude.{ℕ, Bool, true, not, ◌&&◌, ◌==◌, List, [], ◌∷◌, ◌++◌, bytes_eq}
use Rattle.std.specs.List.{list_any}

-- whether a text with this number is there
abbrev pub is_met : List (ℕ × List ℕ) → ℕ → List ℕ → Bool
is_met met n t = list_any (λ q. (n == q.0) && bytes_eq t q.1) met

-- no text of a list is there with its number, or stands in the list twice
module _ {X : Type 0} (number : X → ℕ) (text : X → List ℕ) where
  abbrev pub told_apart : List (ℕ × List ℕ) → List X → Bool
  told_apart met [] = true
  told_apart met (x ∷ xs) = not (is_met met (number x) (text x)) && told_apart (met ++ (number x, text x) ∷ []) xs
