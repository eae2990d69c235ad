-- The laws of the walk.
use Rattle.std.specs.Prelude.{◌≡◌, ℕ, length, None}
use Rattle.effect_meaning.specs.Arena.{Parts}
use Rattle.ml_infer.specs.declared.inference.Inference.{Inference}
use Rattle.ml_infer.specs.declared.tasks.Task.{Task}
use Rattle.ml_infer.specs.Walk.{acted}
use Rattle.ml_infer.specs.Verdict.{walked}
use Rattle.inference_laws.specs.Whole.{HasRoom, TaskIsThere, IsWhole}

-- a state stays whole where a task is done, as long as the walk goes on, if there is room for the types behind it
abbrev pub TaskKeepsWhole : Type 0
TaskKeepsWhole =
    (t : Task) (p : Parts) (s : Inference) → s.end ≡ None → IsWhole s → TaskIsThere (length s.types.nodes) t
    → HasRoom (acted t p s).types → IsWhole (acted t p s)

-- a walk is whole, if there is room for its types
abbrev pub WalkIsWhole : Type 0
WalkIsWhole = (p : Parts) (most : ℕ) → HasRoom (walked p most).types → IsWhole (walked p most)
