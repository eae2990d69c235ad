-- What the deepest part of two lists is.
use Rattle.std.proofs.Common.{◌≡◌, ℕ, ◌+◌, ◌<◌, max, List, [], ◌∷◌, ◌++◌, length, get_or, drop, flat_map, Some, None, option_and_then, slice_get, refl}
use Rattle.std.proofs.lemmas.List.{drop_more}
use Rattle.ml_syntax.specs.Depth.{deepest}

-- the parts of one list, and then those of another
pub deepest_append : (ds : List ℕ) (found : ℕ) (ps qs : List ℕ)
    → deepest ds found (ps ++ qs) ≡ option_and_then (λ d. deepest ds d qs) (deepest ds found ps)
deepest_append ds found [] qs = refl
deepest_append ds found (p ∷ ps) qs =
    elim (slice_get ds p)
    as (λ o. option_and_then (λ d. deepest ds (max found d) (ps ++ qs)) o
    ≡ option_and_then (λ d. deepest ds d qs) (option_and_then (λ d. deepest ds (max found d) ps) o))
    [ None ↦ refl | Some d ↦ deepest_append ds (max found d) ps qs ]

-- one step along a list of what has parts
pub deepest_step : {X : Type 0} (f : X → List ℕ) (ds : List ℕ) (most : ℕ) (xs : List X) (i : ℕ) (x : X) → i < length xs
    → x ≡ get_or xs i x
    → deepest ds most (flat_map f (drop i xs)) ≡ option_and_then (λ d. deepest ds d (flat_map f (drop (i + 1) xs))) (deepest ds most (f x))
deepest_step f ds most xs i x h e =
    rw (drop_more xs i x h, ← e) (deepest_append ds most (f x) (flat_map f (drop (i + 1) xs)))
