use Rattle.std.proofs.Common.{◌≡◌, ◌++◌, length, reverse, zip}
use Rattle.type_graph.specs.Unified.{argument_pairs}
use Rattle.type_graph.proofs.types.Types.open_arguments.Given as goal

-- the pairs that are left come before those that are there
abbrev pub invariant-loop-x : goal.invariant-loop-x
invariant-loop-x l =
    reverse (zip l.first l.second) ++ l.pending ≡ argument_pairs l.self l.fn.left l.fn.right l.fn.pending

abbrev pub decreases-loop-x : goal.decreases-loop-x
decreases-loop-x l = length l.first
