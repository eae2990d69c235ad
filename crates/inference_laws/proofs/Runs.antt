-- Parts of a walk: the tasks above others are done, one after another.
use Rattle.std.proofs.Common.{◌≡◌, ℕ, zero, suc, List, [], ◌∷◌, ◌++◌, None, refl, sym, ◌∙◌, ap, subst, append_assoc}
use Rattle.std.proofs.lemmas.List.{append_cancel_right}
use Rattle.effect_meaning.specs.Arena.{Parts}
use Rattle.ml_infer.specs.declared.inference.Inference.{Inference}
use Rattle.ml_infer.specs.declared.tasks.Task.{Task}
use Rattle.ml_infer.specs.Walk.{acted}

-- a state with these tasks
abbrev pub left : List Task → Inference → Inference
left ts s = record s { tasks = ts }

-- from one state to another one these tasks are done, in so many steps at the most, and the rest is still to be done
abbrev pub Does : Parts → (rest : List Task) → (steps : ℕ) → List Task → Inference → Inference → Type 0
Does p rest steps [] s e = (s.tasks ≡ rest) × (s ≡ e)
Does p rest zero (t ∷ ts) s e = ⊥
Does p rest (suc steps) (t ∷ ts) s e =
    (s.end ≡ None) × (s.tasks ≡ t ∷ (ts ++ rest)) × (new : List Task) ×
    ((acted t p (left (ts ++ rest) s)).tasks ≡ new ++ (ts ++ rest))
    × Does p rest steps (new ++ ts) (acted t p (left (ts ++ rest) s)) e

module _ (p : Parts) where
  -- the tasks are there
  pub does_tasks : (rest : List Task) (k : ℕ) (ts : List Task) (s e : Inference) → Does p rest k ts s e → s.tasks ≡ ts ++ rest
  does_tasks rest k [] s e d = d.0
  does_tasks rest zero (t ∷ ts) s e d = absurd d
  does_tasks rest (suc k) (t ∷ ts) s e d = d.1

  -- some tasks are done, and then the others
  pub record Parted (rest ts us : List Task) (s e : Inference) : Type 0 where
    pub middle : Inference
    pub first_steps : ℕ
    pub first_part : Does p (us ++ rest) first_steps ts s middle
    pub other_steps : ℕ
    pub other_part : Does p rest other_steps us middle e

  one_first :
      (rest ts us : List Task) (k : ℕ) (t : Task) (s e : Inference) → s.end ≡ None → s.tasks ≡ t ∷ ((ts ++ us) ++ rest)
      → (new : List Task)
      → (acted t p (left ((ts ++ us) ++ rest) s)).tasks ≡ new ++ ((ts ++ us) ++ rest)
      → Parted rest (new ++ ts) us (acted t p (left ((ts ++ us) ++ rest) s)) e
      → (all : List Task) → (ts ++ us) ++ rest ≡ all → all ≡ ts ++ (us ++ rest) → Parted rest (t ∷ ts) us s e
  one_first rest ts us k t s e on has new pushed others all one two =
      let same : (ts ++ us) ++ rest ≡ ts ++ (us ++ rest) = one ∙ two in
      let P : List Task → Type 0 = λ xs. ((acted t p (left xs s)).tasks ≡ new ++ xs) × Does p (us ++ rest) others.first_steps
      (new ++ ts) (acted t p (left xs s)) others.middle in
      let k2 : P ((ts ++ us) ++ rest) = (pushed, others.first_part) in
      let moved : P (ts ++ (us ++ rest)) = subst P same k2 in
      record {
        middle = others.middle;
        first_steps = suc others.first_steps;
        first_part = (on, has ∙ ap (λ (xs : List Task). t ∷ xs) same, new, moved.0, moved.1);
        other_steps = others.other_steps;
        other_part = others.other_part;
      }

  pub parted :
      (rest : List Task) (k : ℕ) (ts us : List Task) (s e : Inference) → Does p rest k (ts ++ us) s e → Parted rest ts us s e
  parted rest k [] us s e d = record {
    middle = s;
    first_steps = 0;
    first_part = (does_tasks rest k us s e d, refl);
    other_steps = k;
    other_part = d;
  }
  parted rest zero (t ∷ ts) us s e d = absurd d
  parted rest (suc k) (t ∷ ts) us s e d =
      let new = d.2 in
      let after = acted t p (left ((ts ++ us) ++ rest) s) in
      let more : Does p rest k ((new ++ ts) ++ us) after e =
      subst (λ (xs : List Task). Does p rest k xs after e) (sym (append_assoc new ts us)) d.4 in
      one_first rest ts us k t s e d.0 d.1 new d.3 (parted rest k (new ++ ts) us after e more) ((ts ++ us) ++ rest) refl
      (append_assoc ts us rest)

  -- one task is begun: what it puts first is done
  pub record Begun (rest : List Task) (t : Task) (new : List Task) (s e : Inference) : Type 0 where
    pub goes_on : s.end ≡ None
    pub steps : ℕ
    pub others : Does p rest steps new (acted t p (left rest s)) e

  pub begins :
      (rest : List Task) (k : ℕ) (t : Task) (new : List Task) (s e : Inference) → Does p rest k (t ∷ []) s e
      → (acted t p (left rest s)).tasks ≡ new ++ rest → Begun rest t new s e
  begins rest zero t new s e d pushed = absurd d
  begins rest (suc k) t new s e d pushed =
      let same : d.2 ≡ new = append_cancel_right d.2 new rest (sym d.3 ∙ pushed) in
      let nil : d.2 ++ [] ≡ new = append_nil_at d.2 ∙ same in
      record {
        goes_on = d.0;
        steps = k;
        others = subst (λ (xs : List Task). Does p rest k xs (acted t p (left rest s)) e) nil d.4;
      }
    where
      append_nil_at : (xs : List Task) → xs ++ [] ≡ xs
      append_nil_at [] = refl
      append_nil_at (x ∷ xs) = ap (λ (ys : List Task). x ∷ ys) (append_nil_at xs)

  -- one that puts nothing first is done at once
  pub at_once :
      (rest : List Task) (k : ℕ) (t : Task) (s e : Inference) → Does p rest k (t ∷ []) s e → (acted t p (left rest s)).tasks ≡ rest
      → acted t p (left rest s) ≡ e
  at_once rest k t s e d pushed = (begins rest k t [] s e d pushed).others.1
