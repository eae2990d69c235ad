use Rattle.std.proofs.Common.{◌≡◌, drop}
use Rattle.core_check.specs.Written.{greatest}
use Rattle.core_check.proofs.written.greatest.Given as goal

abbrev pub invariant-loop-part : goal.invariant-loop-part
invariant-loop-part l = greatest l.table l.other l.last (drop l.part-index l.parts) ≡ greatest l.fn.table l.fn.other l.fn.first l.fn.parts
