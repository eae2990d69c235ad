use Rattle.std.proofs.Common.{◌≡◌, ◌-◌, length}
use Rattle.type_graph.specs.Sized.{types_counted, all_counted}
use Rattle.type_graph.proofs.sizes.Sizes.count.Given as goal

-- what comes of the types that are left comes of all
abbrev pub invariant-loop-n : goal.invariant-loop-n
invariant-loop-n l = types_counted (length l.types.nodes - l.n) l.n l.types l.sizes ≡ all_counted l.types
