use Rattle.std.proofs.Common.{◌≡◌, drop}
use Rattle.core_check.specs.Walk.{all_held}
use Rattle.core_check.proofs.names.Names.all_held.Given as goal

abbrev pub invariant-loop-name : goal.invariant-loop-name
invariant-loop-name l = all_held l.self (drop l.name-index l.names) ≡ all_held l.fn.self l.fn.names
