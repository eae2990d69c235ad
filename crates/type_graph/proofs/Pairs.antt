-- Pairs that are made equal, one by one.
use Rattle.std.proofs.Common.{◌≡◌, ℕ, suc, List, [], ◌∷◌, true, false, refl, ap, sym}
use Rattle.type_graph.specs.Graph.{Graph, root}
use Rattle.type_graph.specs.Unified.{Pairs, pairs, roots_unified, onward, unified, unified_is}

-- none is left
pub unified_done : (k : ℕ) (g : Graph) → unified k [] g ≡ unified_is true g
unfolding unified
unified_done k g = refl

-- one more
pub unified_once : (k j a b : ℕ) (ps qs : List (ℕ × ℕ)) (g h : Graph) → k ≡ suc j
    → roots_unified (root g.nodes a) (root g.nodes b) ps g ≡ pairs true qs h → unified j qs h ≡ unified k ((a, b) ∷ ps) g
unfolding unified
unified_once k j a b ps qs g h e s = rw e (sym (ap (λ (o : Pairs). onward o (unified j)) s))

-- one that clashes
pub unified_clash : (k j a b : ℕ) (ps qs : List (ℕ × ℕ)) (g h : Graph) → k ≡ suc j
    → roots_unified (root g.nodes a) (root g.nodes b) ps g ≡ pairs false qs h → unified_is false h ≡ unified k ((a, b) ∷ ps) g
unfolding unified
unified_clash k j a b ps qs g h e s = rw e (sym (ap (λ (o : Pairs). onward o (unified j)) s))
