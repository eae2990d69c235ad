use Rattle.std.proofs.Common.{◌≡◌, drop}
use Rattle.core_check.specs.Effects.{effects_by}
use Rattle.core_check.proofs.effects.effects_by.Given as goal

abbrev pub invariant-loop-row : goal.invariant-loop-row
invariant-loop-row l = effects_by l.types l.table (drop l.row-index l.rows) ≡ effects_by l.fn.types l.fn.table l.fn.rows
