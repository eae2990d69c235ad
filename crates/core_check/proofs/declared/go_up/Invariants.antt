use Rattle.std.proofs.Common.{◌≡◌, drop}
use Rattle.effect_meaning.specs.Scoped.{go_up}
use Rattle.core_check.proofs.declared.go_up.Given as goal

abbrev pub invariant-loop-row : goal.invariant-loop-row
invariant-loop-row l = go_up l.next (drop l.row-index l.rows) ≡ go_up l.fn.first l.fn.rows
