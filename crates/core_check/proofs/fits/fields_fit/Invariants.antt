use Rattle.std.proofs.Common.{◌≡◌, drop}
use Rattle.std.specs.List.{list_all}
use Rattle.core_check.specs.Declares.{field_fits}
use Rattle.core_check.proofs.fits.fields_fit.Given as goal

abbrev pub invariant-loop-row : goal.invariant-loop-row
invariant-loop-row l = list_all (field_fits l.arena l.tables) (drop l.row-index l.rows) ≡ list_all (field_fits l.fn.arena l.fn.tables) l.fn.rows
