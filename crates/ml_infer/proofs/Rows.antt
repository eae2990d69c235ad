-- Rows that belong to types, one by one.
use Rattle.std.proofs.Common.{◌≡◌, ℕ, suc, ◌+◌, ◌<◌, ◌≤◌, List, ◌∷◌, length, drop, get_or, refl, arith}
use Rattle.std.proofs.Math.Seq.{drop-length, drop-cons}
use Rattle.ml_infer.specs.Members.{no_members, member_added, belonging}

-- no row is behind the last one
pub none_belongs : (ts : List ℕ) → belonging (length ts) (drop (length ts) ts) ≡ no_members
unfolding belonging
none_belongs ts = rw drop-length refl

-- one more row before the others
pub one_belongs : (ts : List ℕ) (i j : ℕ) → i ≡ suc j → i ≤ length ts
    → member_added j (get_or ts j 0) (belonging i (drop i ts)) ≡ belonging j (drop j ts)
unfolding belonging
one_belongs ts i j e h =
    let below : j < length ts = omega arith in
    let here : drop j ts ≡ get_or ts j 0 ∷ drop (suc j) ts = drop-cons ts j 0 below in
    let next : j + 1 ≡ i = omega arith in
    rw (here, next, e) refl
