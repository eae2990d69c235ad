use Rattle.std.proofs.Common.{◌≡◌, drop}
use Rattle.core_check.specs.Tasks.{pushed}
use Rattle.core_check.proofs.task.Tasks.push_each.Given as goal

abbrev pub invariant-loop-number : goal.invariant-loop-number
invariant-loop-number l = pushed l.sort l.self (drop l.number-index l.numbers) ≡ pushed l.fn.sort l.fn.self l.fn.numbers
