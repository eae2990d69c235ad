use Rattle.std.proofs.Common.{◌≡◌, drop}
use Rattle.core_check.specs.Tasks.{pushed_parts}
use Rattle.core_check.proofs.task.Tasks.push_parts.Given as goal

abbrev pub invariant-loop-field : goal.invariant-loop-field
invariant-loop-field l = pushed_parts l.sort l.self (drop l.field-index l.fields) ≡ pushed_parts l.fn.sort l.fn.self l.fn.fields
