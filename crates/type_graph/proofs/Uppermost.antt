-- Values before others, one by one.
use Rattle.std.proofs.Common.{◌≡◌, List, [], ◌∷◌, ◌++◌, reverse, refl, sym, append_assoc}
use Rattle.std.proofs.lemmas.List.{reverse-reverse}

-- the last of them is before the others
pub one_uppermost : {A : Type 0} (rest : List A) (last : A) (below : List A) → rest ++ (last ∷ below) ≡ (rest ++ last ∷ []) ++ below
one_uppermost rest last below = sym (append_assoc rest (last ∷ []) below)

-- none is before them
pub none_uppermost : {A : Type 0} (below : List A) → [] ++ below ≡ below
none_uppermost below = refl

-- a list that is turned round twice is as it was
pub turned_twice : {A : Type 0} (xs : List A) → xs ≡ reverse (reverse xs)
turned_twice xs = sym (reverse-reverse xs)
