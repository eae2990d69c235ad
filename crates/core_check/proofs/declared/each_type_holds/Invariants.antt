use Rattle.std.proofs.Common.{◌≡◌, drop}
use Rattle.std.specs.List.{list_all}
use Rattle.core_check.specs.Declares.{type_test}
use Rattle.core_check.proofs.declared.each_type_holds.Given as goal

abbrev pub invariant-loop-row : goal.invariant-loop-row
invariant-loop-row l = list_all (type_test l.arena l.tables l.count) (drop l.row-index l.rows) ≡ list_all (type_test l.fn.arena l.fn.tables l.fn.count) l.fn.rows
