use Rattle.std.proofs.Common.{◌≡◌, drop}
use Rattle.core_check.specs.Walk.{effect_tasks}
use Rattle.core_check.proofs.walk_clauses.push_effects.Given as goal

abbrev pub invariant-loop-clause : goal.invariant-loop-clause
invariant-loop-clause l = effect_tasks l.names l.tasks (drop l.clause-index l.clauses) ≡ effect_tasks l.fn.names l.fn.tasks l.fn.clauses
