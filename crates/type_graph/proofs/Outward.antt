-- Types that become outer, one by one.
use Rattle.std.proofs.Common.{◌≡◌, ℕ, suc, List, [], ◌∷◌, refl, ap, sym}
use Rattle.type_graph.specs.Graph.{Graph, root}
use Rattle.type_graph.specs.Outer.{Outward, outward, root_outer, made_outer}

-- none is left
pub outer_done : (k : ℕ) (g : Graph) → made_outer k [] g ≡ g
unfolding made_outer
outer_done k g = refl

-- one more
pub outer_once : (k j n : ℕ) (ns ms : List ℕ) (g h : Graph) → k ≡ suc j → root_outer (root g.nodes n) ns g ≡ outward ms h
    → made_outer j ms h ≡ made_outer k (n ∷ ns) g
unfolding made_outer
outer_once k j n ns ms g h e s = rw e (sym (ap (λ (o : Outward). made_outer j o.pending o.types) s))
