use Rattle.std.proofs.Common.{◌≡◌, drop}
use Rattle.std.specs.List.{list_all}
use Rattle.core_check.specs.Declares.{effect_test}
use Rattle.core_check.proofs.declared.each_effect_holds.Given as goal

abbrev pub invariant-loop-row : goal.invariant-loop-row
invariant-loop-row l = list_all (effect_test l.arena l.tables l.known) (drop l.row-index l.rows) ≡ list_all (effect_test l.fn.arena l.fn.tables l.fn.known) l.fn.rows
