use Rattle.std.proofs.Common.{◌≡◌, drop, []}
use Rattle.core_check.specs.Written.{reach_table}
use Rattle.core_check.proofs.written.reach_table.Given as goal

abbrev pub invariant-loop-node : goal.invariant-loop-node
invariant-loop-node l = reach_table l.table.items (drop l.node-index l.types) ≡ reach_table [] l.fn.types
