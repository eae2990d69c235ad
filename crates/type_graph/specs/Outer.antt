-- Types become outer.
use Rattle.std.specs.Prelude.{ℕ, zero, suc, true, List, [], ◌∷◌, ◌++◌, reverse, if◌then◌else◌}
use Rattle.type_graph.specs.declared.types.Node.{Node}
use Rattle.type_graph.specs.Graph.{Graph, node_at, root, arguments_of, set_node}

-- the same node, outer
abbrev pub outer : Node → Node
outer node = record node { is_outer = true }

-- the types that are to become outer, the first first, and all types
pub record Outward : Type 0 where
  pub pending : List ℕ
  pub types : Graph

abbrev pub outward : List ℕ → Graph → Outward
outward ns g = record { pending = ns; types = g }

-- a root becomes outer, and its parts are to become so, unless it is outer
abbrev pub root_outer : ℕ → List ℕ → Graph → Outward
root_outer r ns g =
    let node = node_at g.nodes r in
    if node.is_outer then outward ns g
    else outward (reverse (arguments_of g.arguments node.form) ++ ns) (set_node r (outer node) g)

-- types and their parts become outer, in so many steps at the most
unfoldable pub made_outer : (steps : ℕ) → List ℕ → Graph → Graph
made_outer steps [] g = g
made_outer zero (n ∷ ns) g = g
made_outer (suc steps) (n ∷ ns) g = let s = root_outer (root g.nodes n) ns g in made_outer steps s.pending s.types

-- an item ends: what it gave to outer variables becomes outer
abbrev pub item_ended : Graph → Graph
item_ended g = made_outer 18446744073709551615 g.given (record g { given = [] })
