use Rattle.std.proofs.Common.{◌≡◌, drop}
use Rattle.core_check.specs.Walk.{name_tasks}
use Rattle.core_check.proofs.walk_clauses.push_names.Given as goal

abbrev pub invariant-loop-function : goal.invariant-loop-function
invariant-loop-function l = name_tasks l.tasks (drop l.function-index l.functions) ≡ name_tasks l.fn.tasks l.fn.functions
