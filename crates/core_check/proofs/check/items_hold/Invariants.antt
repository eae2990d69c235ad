use Rattle.std.proofs.Common.{drop, []}
use Rattle.core_check.specs.Declares.{builtin_known, ItemsLead}
use Rattle.core_check.proofs.check.items_hold.Given as goal

abbrev pub invariant-loop-item : goal.invariant-loop-item
invariant-loop-item l = ItemsLead l.arena l.tables builtin_known [] l.arena.items l.known l.names (drop l.item-index l.item-items)
