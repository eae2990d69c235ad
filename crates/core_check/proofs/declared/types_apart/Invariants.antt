use Rattle.std.proofs.Common.{◌≡◌, drop, []}
use Rattle.core_check.specs.Texts.{told_apart}
use Rattle.effect_meaning.specs.Scoped.{type_name}
use Rattle.core_check.proofs.declared.types_apart.Given as goal

abbrev pub invariant-loop-row : goal.invariant-loop-row
invariant-loop-row l = told_apart (λ t. 0) (type_name l.arena) l.met (drop l.row-index l.rows) ≡ told_apart (λ t. 0) (type_name l.fn.arena) [] l.fn.rows
