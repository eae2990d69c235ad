-- The tasks of the walk, as lists whose first task is the next one.
use Rattle.std.specs.Prelude.{ℕ, List, [], ◌∷◌}
use Rattle.effect_meaning.specs.declared.core_nodes.FieldPart.{FieldPart}
use Rattle.core_check.specs.declared.task.Task.{Task}
use Rattle.core_check.specs.declared.task.Task.TheVariants as task
use Rattle.core_check.specs.declared.task.Sort.{Sort}
use Rattle.core_check.specs.declared.task.Sort.TheVariants as sort

abbrev pub task_on : Sort → ℕ → Task
task_on sort.Term n = task.Term n
task_on sort.Pattern n = task.Pattern n
task_on sort.Bind n = task.Bind n

-- a task on each number is pushed in turn
abbrev pub pushed : Sort → List Task → List ℕ → List Task
pushed k ts [] = ts
pushed k ts (n ∷ ns) = pushed k (task_on k n ∷ ts) ns

-- a task on the part of each field is pushed in turn
abbrev pub pushed_parts : Sort → List Task → List FieldPart → List Task
pushed_parts k ts [] = ts
pushed_parts k ts (f ∷ fs) = pushed_parts k (task_on k f.part ∷ ts) fs
