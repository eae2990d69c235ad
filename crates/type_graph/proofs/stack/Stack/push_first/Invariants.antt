use Rattle.std.proofs.Common.{◌≡◌, ◌++◌, length}
use Rattle.type_graph.proofs.stack.Stack.push_first.Given as goal

-- those that are left come before those that are there
abbrev pub invariant-loop-last : goal.invariant-loop-last
invariant-loop-last g l = l.left ++ l.self ≡ l.fn.items ++ l.fn.self

abbrev pub decreases-loop-last : goal.decreases-loop-last
decreases-loop-last g l = length l.left
