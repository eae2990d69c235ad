-- The types of comparisons, one by one.
use Rattle.std.proofs.Common.{◌≡◌, ℕ, suc, ◌+◌, ◌<◌, ◌≤◌, length, drop, slice_index_or, arith, List, [], ◌∷◌, ◌++◌, Option, Some, None, Result, Ok, Err, refl, ap, sym, ◌∙◌, append_assoc}
use Rattle.std.proofs.Math.ListN.{get_or, drop_of_length-le}
use Rattle.std.proofs.Math.Seq.{drop-cons}
use Rattle.std.proofs.lemmas.List.{append-nil}
use Rattle.fx_base.specs.declared.refusal.Place.{Place}
use Rattle.type_terms.specs.declared.base_type.BaseTy.{BaseTy}
use Rattle.type_graph.specs.Graph.{Graph}
use Rattle.ml_infer.specs.declared.inference.Compared.{Compared}
use Rattle.ml_infer.specs.Verdict.{base_before, base_of, bases}

-- types before others
abbrev pub behind : List BaseTy → Result (List BaseTy) Place → Result (List BaseTy) Place
behind bs (Ok others) = Ok (bs ++ others)
behind bs (Err at) = Err at

-- none is left
pub none_compared : (bs : List BaseTy) → behind bs (Ok []) ≡ Ok bs
none_compared bs = ap (λ (others : List BaseTy). Ok others) (append-nil bs)

both_before : (bs : List BaseTy) (b : BaseTy) (at : Place) (r : Result (List BaseTy) Place) → behind (bs ++ b ∷ []) r ≡ behind bs (base_before (Some b) at r)
both_before bs b at (Ok others) = ap (λ (all : List BaseTy). Ok all) (append_assoc bs (b ∷ []) others)
both_before bs b at (Err other) = refl

-- one more
pub one_compared : (g : Graph) (bs : List BaseTy) (b : BaseTy) (c : Compared) (cs : List Compared) → base_of g c.found ≡ Some b
    → behind (bs ++ b ∷ []) (bases g cs) ≡ behind bs (bases g (c ∷ cs))
unfolding bases
one_compared g bs b c cs h =
    both_before bs b c.place (bases g cs) ∙ sym (ap (λ (o : Option BaseTy). behind bs (base_before o c.place (bases g cs))) h)

-- one at another type
pub other_compared : (g : Graph) (bs : List BaseTy) (c : Compared) (cs : List Compared) → base_of g c.found ≡ None
    → behind bs (bases g (c ∷ cs)) ≡ Err c.place
unfolding bases
other_compared g bs c cs h = ap (λ (o : Option BaseTy). behind bs (base_before o c.place (bases g cs))) h

-- what is left begins with the comparison at hand
pub one_left : (cs : List Compared) (i : ℕ) (d : Compared) → i < length cs → slice_index_or cs i d ∷ drop (i + 1) cs ≡ drop i cs
one_left cs i d h =
    let next : i + 1 ≡ suc i = omega arith in
    rw next (sym (drop-cons cs i d h))

-- or nothing is left
pub all_compared : (g : Graph) (bs : List BaseTy) (cs : List Compared) (i : ℕ) → length cs ≤ i → behind bs (bases g (drop i cs)) ≡ Ok bs
unfolding bases
all_compared g bs cs i h = rw (drop_of_length-le cs h) (none_compared bs)
