-- The token of a number.
use Rattle.std.proofs.Common.{◌≡◌, ℕ, zero, suc, List, [], ◌∷◌, Some, slice_get, drop}

-- the first of what is left is the token of that number
pub first_of_rest : {A : Type 0} (xs rest : List A) (i : ℕ) (x : A) → drop i xs ≡ x ∷ rest → slice_get xs i ≡ Some x
first_of_rest [] rest zero x h = cc
first_of_rest [] rest (suc i) x h = cc
first_of_rest (y ∷ ys) rest zero x h = cc
first_of_rest (y ∷ ys) rest (suc i) x h = first_of_rest ys rest i x h
