use Rattle.std.proofs.Common.{◌≡◌, drop}
use Rattle.core_check.specs.Declares.{ordered}
use Rattle.core_check.proofs.fits.are_ordered.Given as goal

abbrev pub invariant-loop-row : goal.invariant-loop-row
invariant-loop-row l = ordered l.of_type l.index (drop l.row-index l.rows) ≡ ordered 0 0 l.fn.rows
