use Rattle.std.proofs.Common.{◌≡◌, drop}
use Rattle.core_check.specs.Walk.{body_tasks}
use Rattle.core_check.proofs.walk_clauses.push_bodies.Given as goal

abbrev pub invariant-loop-function : goal.invariant-loop-function
invariant-loop-function l = body_tasks l.names l.tasks (drop l.function-index l.functions) ≡ body_tasks l.fn.names l.fn.tasks l.fn.functions
