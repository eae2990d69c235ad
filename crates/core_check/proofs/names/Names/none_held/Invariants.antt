use Rattle.std.proofs.Common.{◌≡◌, drop}
use Rattle.core_check.specs.Walk.{none_held}
use Rattle.core_check.proofs.names.Names.none_held.Given as goal

abbrev pub invariant-loop-name : goal.invariant-loop-name
invariant-loop-name l = none_held l.self (drop l.name-index l.names) ≡ none_held l.fn.self l.fn.names
