use Rattle.std.proofs.Common.{◌≡◌, drop, []}
use Rattle.core_check.specs.Written.{bound_table}
use Rattle.core_check.proofs.written.bound_table.Given as goal

abbrev pub invariant-loop-node : goal.invariant-loop-node
invariant-loop-node l = bound_table l.table.items (drop l.node-index l.types) ≡ bound_table [] l.fn.types
