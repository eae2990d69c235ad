-- What stays from state to state where a pattern is walked over.
use Rattle.std.proofs.Common.{◌≡◌, ℕ, List, [], ◌∷◌, Option, Some, None, Bool, refl, sym, ◌∙◌, ap, subst, if◌then◌else◌, ⊎_elim}
use Rattle.std.proofs.lemmas.Bool.Decides.{eqb_tells}
use Rattle.effect_meaning.specs.Arena.{Parts}
use Rattle.ml_infer.specs.declared.inference.Inference.{Inference}
use Rattle.ml_infer.specs.declared.inference.NameType.{NameType}
use Rattle.ml_infer.specs.declared.inference.NameType.TheVariants.{One, Generalised}
use Rattle.ml_infer.specs.declared.tasks.Task.{Task}
use Rattle.ml_infer.specs.Inference.{Gives, gives, new_name, taken, taken_from, new_variable}
use Rattle.ml_infer.specs.Known.{known}
use Rattle.ml_infer.specs.Patterns.{bound, bound_as, new_bound}
use Rattle.inference_laws.specs.Whole.{HasRoom}
use Rattle.inference_laws.specs.Meanings.{VariablesStay, ReadsAreMeant, LeadsTo}
use Rattle.inference_laws.proofs.Kept.{Kept, room_before}
use Rattle.inference_laws.proofs.GraphLaws.{GraphLaws}
use Rattle.inference_laws.proofs.Noting.{noted_same, noted_other}
use Rattle.inference_laws.proofs.Leading.{variable_leads}
use Rattle.inference_laws.proofs.Runs.{left}

-- a name that the pattern at hand has bound stays known
abbrev pub BoundStay : (s e : Inference) → Type 0
BoundStay s e = (x v : ℕ) → known s.names x ≡ Some (One v s.pattern) → known e.names x ≡ known s.names x

-- a later state in the same item and the same pattern, where what was known is known
pub record Steady (p : Parts) (s e : Inference) : Type 0 where
  pub item : e.item ≡ s.item
  pub pattern : e.pattern ≡ s.pattern
  pub stay : VariablesStay s e
  pub meant : HasRoom e.types → e.end ≡ None → ReadsAreMeant p s → ReadsAreMeant p e
  pub bound_stay : BoundStay s e

-- where the same tasks are left and the same is known of names
pub record Quiet (p : Parts) (s e : Inference) : Type 0 where
  pub steady : Steady p s e
  pub tasks : e.tasks ≡ s.tasks
  pub names : e.names ≡ s.names

module _ (p : Parts) where
  pub steady_here : (s : Inference) → Steady p s s
  steady_here s = record {
    item = refl;
    pattern = refl;
    stay = λ v k is item. is;
    meant = λ room on meant. meant;
    bound_stay = λ x v is. refl;
  }

  pub steady_on : (s t u : Inference) → Kept t u → Steady p s t → Steady p t u → Steady p s u
  steady_on s t u kept a b = record {
    item = b.item ∙ a.item;
    pattern = b.pattern ∙ a.pattern;
    stay = λ v k is item. b.stay v k (a.stay v k is item) (item ∙ sym a.item);
    meant = λ room on meant. b.meant room on (a.meant (room_before t u kept room) (kept.ended on) meant);
    bound_stay =
        λ x v is.
        let same = a.bound_stay x v is in
        let here : known t.names x ≡ Some (One v t.pattern) = same ∙ is ∙ ap (λ q. Some (One v q)) (sym a.pattern) in
        b.bound_stay x v here ∙ same;
  }

  -- the tasks are no matter
  pub steady_leaving : (s u : Inference) (ts : List Task) → Steady p (left ts s) u → Steady p s u
  steady_leaving s u ts a = record { item = a.item; pattern = a.pattern; stay = a.stay; meant = a.meant; bound_stay = a.bound_stay }

  pub quiet_here : (s : Inference) → Quiet p s s
  quiet_here s = record { steady = steady_here s; tasks = refl; names = refl }

  pub quiet_on : (s t u : Inference) → Kept t u → Quiet p s t → Quiet p t u → Quiet p s u
  quiet_on s t u kept a b = record {
    steady = steady_on s t u kept a.steady b.steady;
    tasks = b.tasks ∙ a.tasks;
    names = b.names ∙ a.names;
  }

  -- a state that the one leads to
  pub leads_quiet : (s t : Inference) → LeadsTo p s t → Quiet p s t
  leads_quiet s t a = record {
    steady = record {
      item = a.rest.same_item;
      pattern = a.rest.same_pattern;
      stay = a.stay;
      meant = a.meant;
      bound_stay = λ x v is. ap (λ xs. known xs x) a.rest.same_names;
    };
    tasks = a.rest.same_tasks;
    names = a.rest.same_names;
  }

  -- other types that were given
  pub quiet_given : (s : Inference) (ts : List ℕ) → Quiet p s (record s { given = ts })
  quiet_given s ts = record {
    steady = record {
      item = refl;
      pattern = refl;
      stay = λ v k is item. is;
      meant = λ room on meant. meant;
      bound_stay = λ x v is. refl;
    };
    tasks = refl;
    names = refl;
  }

-- a type was given behind others
pub given_behind :
    (t : ℕ) (now before middle first : List ℕ) → now ≡ t ∷ before → before ≡ middle → middle ≡ first → now ≡ t ∷ first
given_behind t now before middle first a b c = a ∙ ap (λ ts. t ∷ ts) (b ∙ c)

-- the type that was given last
pub taken_is : (s : Inference) (t : ℕ) (ts : List ℕ) → s.given ≡ t ∷ ts → taken s ≡ gives t (record s { given = ts })
taken_is s t ts has = ap (λ g. taken_from g s) has

module _ (l : GraphLaws) (p : Parts) (s0 s : Inference) (kept : Kept s0 s) where
  quiet_taken_so : (ts : List ℕ) → Quiet p s (taken_from ts s).state
  quiet_taken_so [] = leads_quiet p s (new_variable s).state (variable_leads l s0 s kept p)
  quiet_taken_so (t ∷ ts) = quiet_given p s ts

  pub quiet_taken : Quiet p s (taken s).state
  quiet_taken = quiet_taken_so s.given

  -- a name of the pattern at hand: nothing else is known of others
  pub record Names (x : ℕ) (g : Gives) : Type 0 where
    pub steady : Steady p s g.state
    pub tasks : g.state.tasks ≡ s.tasks
    pub given : g.state.given ≡ s.given
    pub others : (y : ℕ) → (y ≡ x → ⊥) → known g.state.names y ≡ known s.names y
    pub bound : known g.state.names x ≡ Some (One g.found g.state.pattern)

  module _ (x : ℕ) where
    other_name : (y : ℕ) → (y ≡ x → ⊥) → known (new_bound x s).state.names y ≡ known s.names y
    other_name y other = noted_other x y (One (new_name x s).found s.pattern) s.names other

    new_names : ((v : ℕ) → known s.names x ≡ Some (One v s.pattern) → ⊥) → Names x (new_bound x s)
    new_names new =
        let v = variable_leads l s0 s kept p in
        record {
          steady = record {
            item = refl;
            pattern = refl;
            stay = v.stay;
            meant = v.meant;
            bound_stay =
                λ y w is.
                ⊎_elim (λ h. absurd (new w (ap (known s.names) (sym h.1) ∙ is))) (λ h. other_name y h.1) (eqb_tells y x);
          };
          tasks = refl;
          given = refl;
          others = other_name;
          bound = noted_same x (One (new_name x s).found s.pattern) s.names;
        }

    names_so : (o : Option NameType) → known s.names x ≡ o → Names x (bound_as o x s)
    names_so None is = new_names (λ v h. cc)
    names_so (Some (Generalised t)) is = new_names (λ v h. cc)
    names_so (Some (One t q)) is =
        let N : Bool → Type 0 = λ b. Names x (if b then gives t s else new_bound x s) in
        ⊎_elim
        (λ h.
        subst N (sym h.0)
        (record {
          steady = steady_here p s;
          tasks = refl;
          given = refl;
          others = λ y other. refl;
          bound = is ∙ ap (λ r. Some (One t r)) h.1;
        }))
        (λ h. subst N (sym h.0) (new_names (λ v e. h.1 (cc))))
        (eqb_tells q s.pattern)

    pub name_bound : Names x (bound x s)
    name_bound = names_so (known s.names x) refl
