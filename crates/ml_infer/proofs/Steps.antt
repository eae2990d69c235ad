-- Tasks, one by one.
use Rattle.std.proofs.Common.{◌≡◌, ℕ, suc, Some, None, ap, sym}
use Rattle.effect_meaning.specs.Arena.{Parts}
use Rattle.ml_infer.specs.declared.inference.Inference.{Inference}
use Rattle.ml_infer.specs.declared.tasks.Task.{Task}
use Rattle.ml_infer.specs.Walk.{Next, next, next_task, onward, acted, finished}

-- none is left
pub finished_none : (k j : ℕ) (p : Parts) (s t : Inference) → k ≡ suc j → next_task s ≡ next None t → finished k p s ≡ t
unfolding finished
finished_none k j p s t e h =
    rw e (ap (λ (n : Next). onward n.task n.state (λ (a : Task). finished j p (acted a p n.state))) h)

-- one more
pub finished_once : (k j : ℕ) (p : Parts) (a : Task) (s t : Inference) → k ≡ suc j → next_task s ≡ next (Some a) t
    → finished j p (acted a p t) ≡ finished k p s
unfolding finished
finished_once k j p a s t e h =
    rw e (sym (ap (λ (n : Next). onward n.task n.state (λ (b : Task). finished j p (acted b p n.state))) h))
