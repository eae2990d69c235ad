use Rattle.std.proofs.Common.{◌≡◌, drop}
use Rattle.core_check.specs.Walk.{clause_tasks}
use Rattle.core_check.proofs.walk_clauses.push_clauses.Given as goal

abbrev pub invariant-loop-clause : goal.invariant-loop-clause
invariant-loop-clause l = clause_tasks l.names l.tasks (drop l.clause-index l.clauses) ≡ clause_tasks l.fn.names l.fn.tasks l.fn.clauses
