-- Pairs before others.
use Rattle.std.proofs.Common.{◌≡◌, ℕ, List, [], ◌∷◌, ◌++◌, reverse, zip, refl, sym, ◌∙◌, ap, append_assoc}
use Rattle.std.proofs.lemmas.List.{reverse-append}

-- one more pair
pub pair_opened : (x y : ℕ) (xs ys : List ℕ) (ps : List (ℕ × ℕ)) → reverse (zip xs ys) ++ ((x, y) ∷ ps) ≡ reverse (zip (x ∷ xs) (y ∷ ys)) ++ ps
pair_opened x y xs ys ps =
    let one : List (ℕ × ℕ) = (x, y) ∷ [] in
    sym (ap (λ (qs : List (ℕ × ℕ)). qs ++ ps) (reverse-append one (zip xs ys)) ∙ append_assoc (reverse (zip xs ys)) one ps)

-- no pair is left where the one list is empty
pub none_opened : (xs : List ℕ) (ps : List (ℕ × ℕ)) → reverse (zip xs []) ++ ps ≡ ps
none_opened [] ps = refl
none_opened (x ∷ xs) ps = refl
