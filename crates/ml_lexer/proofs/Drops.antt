use Rattle.std.proofs.Common.{◌≡◌, ℕ, suc, ◌+◌, ◌<◌, List, ◌∷◌, length, drop, map, get_or, sym, ◌∙◌, ap, add-one}
use Rattle.std.proofs.Math.Seq.{drop-cons}
use Rattle.std.proofs.lemmas.List.{drop-map}

-- the images from an index on, of which the first is that of the item there
pub drop-map_at : {X Y : Type 0} (f : X → Y) (xs : List X) (i : ℕ) (x : X) → i < length xs → x ≡ get_or xs i x → drop i (map f xs) ≡ f x ∷ drop (i + 1) (map f xs)
drop-map_at f xs i x h e =
    drop-map f i xs ∙ ap (map f) (drop-cons xs i x h) ∙ ap (λ y. f y ∷ map f (drop (suc i) xs)) (sym e)
    ∙ ap (λ ys. f x ∷ ys) (sym (drop-map f (suc i) xs)) ∙ ap (λ n. f x ∷ drop n (map f xs)) (sym (add-one i))
