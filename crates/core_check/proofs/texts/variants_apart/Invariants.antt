use Rattle.std.proofs.Common.{◌≡◌, drop, []}
use Rattle.core_check.specs.Texts.{told_apart}
use Rattle.core_check.proofs.texts.variants_apart.Given as goal

abbrev pub invariant-loop-row : goal.invariant-loop-row
invariant-loop-row l = told_apart (λ r. r.of_type) (λ r. r.name) l.met (drop l.row-index l.rows) ≡ told_apart (λ r. r.of_type) (λ r. r.name) [] l.fn.rows
