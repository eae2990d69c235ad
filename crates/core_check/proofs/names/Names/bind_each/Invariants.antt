use Rattle.std.proofs.Common.{◌≡◌, drop}
use Rattle.core_check.specs.Walk.{bound_behind}
use Rattle.core_check.proofs.names.Names.bind_each.Given as goal

abbrev pub invariant-loop-name : goal.invariant-loop-name
invariant-loop-name l = bound_behind l.self (drop l.name-index l.names) ≡ bound_behind l.fn.self l.fn.names
