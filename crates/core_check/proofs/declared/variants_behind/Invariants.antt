use Rattle.std.proofs.Common.{◌≡◌, ◌+◌, drop}
use Rattle.core_check.specs.Declares.{front, is_between}
use Rattle.core_check.proofs.declared.variants_behind.Given as goal

abbrev pub invariant-loop-row : goal.invariant-loop-row
invariant-loop-row l = l.later + front (λ r. is_between l.low l.high r.of_type) (drop l.row-index (drop l.count l.rows)) ≡ l.fn.count + front (λ r. is_between l.fn.low l.fn.high r.of_type) (drop l.fn.count l.fn.rows)
