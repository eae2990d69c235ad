-- What is kept where tasks are done, and what follows of all of them where it follows of each.
use Rattle.std.proofs.Common.{◌≡◌, ℕ, zero, suc, List, [], ◌∷◌, ◌++◌, length, None, sym, ◌∙◌, subst}
use Rattle.std.specs.List.{AllByRecursion}
use Rattle.std.proofs.lemmas.List.{append_cancel_right}
use Rattle.effect_meaning.specs.Arena.{Parts}
use Rattle.ml_infer.specs.declared.inference.Inference.{Inference}
use Rattle.ml_infer.specs.declared.tasks.Task.{Task}
use Rattle.ml_infer.specs.Walk.{acted}
use Rattle.inference_laws.specs.Whole.{TaskIsThere}
use Rattle.inference_laws.proofs.Each.{each_appended}
use Rattle.inference_laws.proofs.Kept.{Kept, Roomy, kept_here}
use Rattle.inference_laws.proofs.Fields.{left_kept}
use Rattle.inference_laws.proofs.GraphLaws.{GraphLaws}
use Rattle.inference_laws.proofs.Walk.{acted_kept}
use Rattle.inference_laws.proofs.Runs.{left, Does}

module _ (l : GraphLaws) (p : Parts) where
  -- the types of the tasks are there
  module _ (s0 s : Inference) (kept : Kept s0 s) (t : Task) (ts : List Task) (has : s.tasks ≡ t ∷ ts) where
    tasks_are : Roomy s (λ types. AllByRecursion (TaskIsThere types) (t ∷ ts))
    tasks_are room = subst (AllByRecursion (TaskIsThere (length s.types.nodes))) has (kept.whole room).numbers.tasks_there

    pub task_is : Roomy s (λ types. TaskIsThere types t)
    task_is room = (tasks_are room).0

    -- the next task is left out
    pub rest_kept : Kept s0 (left ts s)
    rest_kept = left_kept s0 s ts kept (λ room. (tasks_are room).1)

    -- and done
    pub step_kept : s.end ≡ None → Kept s0 (acted t p (left ts s))
    step_kept on = acted_kept l p s0 (left ts s) rest_kept t on task_is

  -- so they are where tasks are done
  pub does_kept : (rest : List Task) (k : ℕ) (ts : List Task) (s0 s e : Inference) → Does p rest k ts s e → Kept s0 s → Kept s0 e
  does_kept rest k [] s0 s e d kept = subst (Kept s0) d.1 kept
  does_kept rest zero (t ∷ ts) s0 s e d kept = absurd d
  does_kept rest (suc k) (t ∷ ts) s0 s e d kept =
      does_kept rest k (d.2 ++ ts) s0 (acted t p (left (ts ++ rest) s)) e d.4 (step_kept s0 s kept t (ts ++ rest) d.1 d.0)

  -- a task is done that puts tasks of a kind first
  pub record Stepped (P : Task → Type 0) (R : Inference → Inference → Type 0) (t : Task) (s : Inference) : Type 0 where
    pub new : List Task
    pub pushed : (acted t p s).tasks ≡ new ++ s.tasks
    pub all : AllByRecursion P new
    pub so : R s (acted t p s)

  -- what is so from each task of a kind to the state behind it is so from the first state to the last one
  module _ (P : Task → Type 0) (R : Inference → Inference → Type 0) (here : (s : Inference) → R s s)
      (on : (s t u : Inference) → Kept t u → R s t → R t u → R s u)
      (leaving : (s u : Inference) (ts : List Task) → R (left ts s) u → R s u)
      (step : (t : Task) (s : Inference) → P t → Kept s s → s.end ≡ None → Roomy s (λ types. TaskIsThere types t)
      → Stepped P R t s) where
    pub does_so :
        (rest : List Task) (k : ℕ) (ts : List Task) (s e : Inference) → AllByRecursion P ts → Kept s s → Does p rest k ts s e
        → R s e
    does_so rest k [] s e all kept d = subst (R s) d.1 (here s)
    does_so rest zero (t ∷ ts) s e all kept d = absurd d
    does_so rest (suc k) (t ∷ ts) s e all kept d =
        let before = left (ts ++ rest) s in
        let after = acted t p before in
        let k0 = rest_kept s s kept t (ts ++ rest) d.1 in
        let one = step t before all.0 (kept_here s before k0) d.0 (task_is s s kept t (ts ++ rest) d.1) in
        let same : d.2 ≡ one.new = append_cancel_right d.2 one.new (ts ++ rest) (sym d.3 ∙ one.pushed) in
        let more : AllByRecursion P d.2 = subst (AllByRecursion P) (sym same) one.all in
        let after_kept = kept_here s after (step_kept s s kept t (ts ++ rest) d.1 d.0) in
        on s after e (does_kept rest k (d.2 ++ ts) after after e d.4 after_kept) (leaving s after (ts ++ rest) one.so)
        (does_so rest k (d.2 ++ ts) after e (each_appended P d.2 ts more all.1) after_kept d.4)
