-- Room for a number.
use Rattle.std.proofs.Common.{◌≡◌, ℕ, ◌+◌, List, [], ◌∷◌, ◌++◌, Option, None, replicate, ap, ◌∙◌, append_assoc}
use Rattle.std.proofs.lemmas.List.{replicate-append-replicate, append-nil}

-- a little more
pub more_room : {A : Type 0} (xs : List (Option A)) (i : ℕ) → (xs ++ replicate i None) ++ None ∷ [] ≡ xs ++ replicate (i + 1) None
more_room {A} xs i =
    let nothing : Option A = None in
    append_assoc xs (replicate i nothing) (nothing ∷ []) ∙ ap (λ (ys : List (Option A)). xs ++ ys) (replicate-append-replicate i 1 nothing)

-- none
pub no_room : {A : Type 0} (xs : List (Option A)) → xs ++ replicate 0 None ≡ xs
no_room xs = append-nil xs
