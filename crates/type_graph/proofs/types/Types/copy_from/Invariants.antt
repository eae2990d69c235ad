use Rattle.std.proofs.Common.{◌≡◌, ◌-◌}
use Rattle.type_graph.specs.Copied.{copied_from}
use Rattle.type_graph.proofs.types.Types.copy_from.Given as goal

-- what comes of the types that are left comes of all
abbrev pub invariant-loop-at : goal.invariant-loop-at
invariant-loop-at l =
    copied_from (33554432 - l.at) l.base l.at l.self ≡ copied_from (33554432 - l.base) l.base l.base l.fn.self
