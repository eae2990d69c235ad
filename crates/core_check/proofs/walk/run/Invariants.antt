use Rattle.std.proofs.Common.{[]}
use Rattle.core_check.specs.Walk.{Leads}
use Rattle.core_check.proofs.walk.run.Given as goal

abbrev pub invariant-loop : goal.invariant-loop
invariant-loop l = Leads l.arena l.known l.reach l.fn.tasks l.fn.names [] l.tasks l.names l.kept
