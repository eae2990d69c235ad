-- Tasks that are put before others.
use Rattle.std.specs.Prelude.{ℕ, List, ◌∷◌, ◌++◌, map, zip}
use Rattle.ml_infer.specs.declared.inference.Inference.{Inference}
use Rattle.ml_infer.specs.declared.tasks.Task.{Task}
use Rattle.ml_infer.specs.declared.tasks.Task.TheVariants as task

-- tasks before all others, the first of them to be done first
abbrev pub first : List Task → Inference → Inference
first ts s = record s { tasks = ts ++ s.tasks }

-- one task before all others
abbrev pub first_one : Task → Inference → Inference
first_one t s = record s { tasks = t ∷ s.tasks }

-- terms that have types
abbrev pub term_tasks : (ns ts : List ℕ) → List Task
term_tasks ns ts = map (λ p. task.TermIs p.0 p.1) (zip ns ts)
