use Rattle.std.proofs.Common.{◌≡◌, drop}
use Rattle.serial_runner.specs.Ending.{unfinished}
use Rattle.serial_runner.proofs.ending.unfinished_end.Given as goal

-- no hart so far has spent its budget
abbrev pub invariant-loop-number : goal.invariant-loop-number
invariant-loop-number l = unfinished l.budget l.number (drop l.number l.harts) ≡ unfinished l.budget 0 l.harts
