use Rattle.std.proofs.Common.{◌≡◌, drop}
use Rattle.core_check.specs.Walk.{are_known}
use Rattle.core_check.proofs.rows.are_known.Given as goal

abbrev pub invariant-loop-field : goal.invariant-loop-field
invariant-loop-field l = are_known l.known (drop l.field-index l.fields) ≡ are_known l.fn.known l.fn.fields
