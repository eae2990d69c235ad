use Rattle.std.proofs.Common.{◌≡◌, ◌-◌}
use Rattle.type_graph.specs.Graph.{followed}
use Rattle.type_graph.proofs.types.Types.root.Given as goal

-- the links that are left lead where all lead
abbrev pub invariant-loop-links : goal.invariant-loop-links
invariant-loop-links l = followed (32 - l._links) l.self.nodes l.at ≡ followed 32 l.self.nodes l.n
