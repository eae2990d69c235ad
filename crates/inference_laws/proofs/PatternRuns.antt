-- What the walk over a pattern leaves as it was, and what is so at the end of it.
use Rattle.std.proofs.Common.{◌≡◌, ℕ, ◌<◌, List, [], ◌∷◌, ◌++◌, length, Some, None, refl, sym, ◌∙◌, ap, subst}
use Rattle.std.specs.Prelude.{IsTrue}
use Rattle.std.specs.List.{AllByRecursion}
use Rattle.fx_base.specs.declared.refusal.Place.{Place}
use Rattle.effect_meaning.specs.Arena.{Parts, IsArena}
use Rattle.effect_meaning.specs.ArenaTrees.{pattern_at, patterns_of, program, type_at, types_of}
use Rattle.effect_meaning.specs.Scoped.{sides_agree}
use Rattle.type_terms.specs.TypeTrees.{Ty}
use Rattle.type_terms.specs.WrittenTypes.{Means}
use Rattle.type_readings.specs.Readings.{Reads}
use Rattle.ml_infer.specs.declared.inference.Inference.{Inference}
use Rattle.ml_infer.specs.declared.inference.NameType.TheVariants.{One}
use Rattle.ml_infer.specs.declared.tasks.Task.{Task}
use Rattle.ml_infer.specs.declared.tasks.Task.TheVariants as task
use Rattle.ml_infer.specs.Inference.{Gives, equated, given_back, taken}
use Rattle.ml_infer.specs.Known.{known}
use Rattle.ml_infer.specs.Patterns.{bound}
use Rattle.ml_infer.specs.Walk.{acted, acted_on_data}
use Rattle.ml_infer.specs.Written.{annotated_if}
use Rattle.inference_laws.specs.Whole.{HasRoom}
use Rattle.inference_laws.specs.Meanings.{VariablesAgree, ReadsAreMeant, RowsAreBelow}
use Rattle.inference_laws.proofs.Kept.{Kept, Has, kept_here, room_before, has_later}
use Rattle.inference_laws.proofs.Fields.{given_kept}
use Rattle.inference_laws.proofs.GraphLaws.{GraphLaws}
use Rattle.inference_laws.proofs.Steps.{taken_kept}
use Rattle.inference_laws.proofs.Leading.{equated_equal, equated_leads}
use Rattle.inference_laws.proofs.Patterns.{bound_made}
use Rattle.inference_laws.proofs.Runs.{left, Does, Begun, at_once, does_tasks, parted}
use Rattle.inference_laws.proofs.Grounds.{BindsIn, IsBound}
use Rattle.inference_laws.proofs.Doing.{does_kept, does_so, rest_kept, step_kept, task_is}
use Rattle.inference_laws.proofs.WrittenMeant.{annotated_leads, annotated_meant}
use Rattle.inference_laws.proofs.Steady.{Steady, name_bound, steady_here, steady_on, steady_leaving, taken_is}
use Rattle.inference_laws.proofs.PatternSteps.{IsOfPattern, Spares, SparedBy, pattern_step}

module _ (l : GraphLaws) (p : Parts) (arena : IsArena p) (below : RowsAreBelow p) where
  -- tasks of patterns leave it as it was
  pub does_steady :
      (rest : List Task) (k : ℕ) (ts : List Task) (s e : Inference) → AllByRecursion IsOfPattern ts → Kept s s
      → Does p rest k ts s e → Steady p s e
  does_steady =
      does_so l p IsOfPattern (Steady p) (steady_here p) (steady_on p) (steady_leaving p)
      (λ t s is kept on there.
      let st = pattern_step l p arena below s kept t is there in
      record { new = st.new; pushed = st.pushed; all = st.all; so = st.steady })

  module _ (x : ℕ) where
    abbrev SparesOf : Task → Type 0
    SparesOf t = IsOfPattern t × Spares p x t

    each_both : (ts : List Task) → AllByRecursion IsOfPattern ts → AllByRecursion (Spares p x) ts → AllByRecursion SparesOf ts
    each_both [] a b = tt
    each_both (t ∷ ts) a b = ((a.0, b.0), each_both ts a.1 b.1)

    -- of a name that they don't bind nothing else is known
    pub does_spare :
        (rest : List Task) (k : ℕ) (ts : List Task) (s e : Inference) → AllByRecursion SparesOf ts → Kept s s → Does p rest k ts s e
        → known e.names x ≡ known s.names x
    does_spare =
        does_so l p SparesOf (λ s e. known e.names x ≡ known s.names x) (λ s. refl) (λ s t u kept a b. b ∙ a) (λ s u ts a. a)
        (λ t s is kept on there.
        let st = pattern_step l p arena below s kept t is.0 there in
        let so = st.spared x is.1 in
        record { new = st.new; pushed = st.pushed; all = each_both st.new st.all so.0; so = so.1 })

  -- a pattern binds its names
  binds_of :
      (q : ℕ) (rest : List Task) (k : ℕ) (t : Task) (s e : Inference) → IsOfPattern t
      → ((x : ℕ) → SparedBy x (pattern_at (patterns_of p) q) → Spares p x t) → Kept s s → Does p rest k (t ∷ []) s e
      → IsTrue (sides_agree (pattern_at (patterns_of p) q)) → BindsIn p (pattern_at (patterns_of p) q) s e
  binds_of q rest k t s e is spares kept d sides =
      let steady = does_steady rest k (t ∷ []) s e (is, tt) kept d in
      record {
        kept = does_kept l p rest k (t ∷ []) s s e d kept;
        item = steady.item;
        stay = steady.stay;
        meant = steady.meant;
        pattern = steady.pattern;
        others = λ x none. does_spare x rest k (t ∷ []) s e ((is, spares x (sides, none)), tt) kept d;
        bound_before = steady.bound_stay;
      }

  pub pattern_is_binds :
      (q t : ℕ) (rest : List Task) (k : ℕ) (s e : Inference) → Kept s s → Does p rest k (task.PatternIs q t ∷ []) s e
      → IsTrue (sides_agree (pattern_at (patterns_of p) q)) → BindsIn p (pattern_at (patterns_of p) q) s e
  pattern_is_binds q t rest k s e = binds_of q rest k (task.PatternIs q t) s e tt (λ x h. h)

-- the walk goes on from a state to another one, whose types are read
pub record Goes (p : Parts) (f vs : ℕ → Ty) (s e : Inference) : Type 0 where
  pub here : Kept s s
  pub meant : ReadsAreMeant p s
  pub room : HasRoom e.types
  pub on : e.end ≡ None
  pub reads : Reads f e.types
  pub agree : VariablesAgree f vs e

module _ (l : GraphLaws) (p : Parts) (arena : IsArena p) (below : RowsAreBelow p) (f vs : ℕ → Ty) where
  -- what is so of the later state is so of one before
  goes_before : (s m e : Inference) → Kept m e → Steady p m e → Goes p f vs s e → Goes p f vs s m
  goes_before s m e kept steady g = record {
    here = g.here;
    meant = g.meant;
    room = room_before m e kept g.room;
    on = kept.ended g.on;
    reads = kept.reads g.room g.on f g.reads;
    agree = λ v k is item. g.agree v k (steady.stay v k is item) (item ∙ sym steady.item);
  }

  goes_after : (s m e : Inference) → Kept s m → Kept m e → Steady p s m → Goes p f vs s e → Goes p f vs m e
  goes_after s m e kept later steady g = record {
    here = kept_here s m kept;
    meant = steady.meant (room_before m e later g.room) (later.ended g.on) g.meant;
    room = g.room;
    on = g.on;
    reads = g.reads;
    agree = g.agree;
  }

  -- some tasks are done, and then others
  pub record Halves (rest ts us : List Task) (s e : Inference) : Type 0 where
    pub middle : Inference
    pub first_steps : ℕ
    pub first : Does p (us ++ rest) first_steps ts s middle
    pub other_steps : ℕ
    pub other : Does p rest other_steps us middle e
    pub goes_first : Goes p f vs s middle
    pub goes_other : Goes p f vs middle e
    pub kept_first : Kept s middle
    pub kept_other : Kept middle e
    pub steady : Steady p middle e

  pub halves :
      (rest ts us : List Task) (k : ℕ) (s e : Inference) → AllByRecursion IsOfPattern ts → AllByRecursion IsOfPattern us
      → Does p rest k (ts ++ us) s e → Goes p f vs s e → Halves rest ts us s e
  halves rest ts us k s e all others d g =
      let part = parted p rest k ts us s e d in
      let m = part.middle in
      let kept = does_kept l p (us ++ rest) part.first_steps ts s s m part.first_part g.here in
      let middle = kept_here s m kept in
      let later = does_kept l p rest part.other_steps us m m e part.other_part middle in
      let steady = does_steady l p arena below rest part.other_steps us m e others middle part.other_part in
      record {
        middle = m;
        first_steps = part.first_steps;
        first = part.first_part;
        other_steps = part.other_steps;
        other = part.other_part;
        goes_first = goes_before s m e later steady g;
        goes_other = goes_after s m e kept later
            (does_steady l p arena below (us ++ rest) part.first_steps ts s m all g.here part.first_part) g;
        kept_first = kept;
        kept_other = later;
        steady = steady;
      }

  -- a task is begun
  pub goes_begun :
      (rest : List Task) (k : ℕ) (t : Task) (new : List Task) (s e : Inference) → IsOfPattern t → Does p rest k (t ∷ []) s e
      → Begun p rest t new s e → Goes p f vs s e → Goes p f vs (acted t p (left rest s)) e
  goes_begun rest k t new s e is d b g =
      let has = does_tasks p rest k (t ∷ []) s e d in
      let kept = rest_kept l p s s g.here t rest has in
      let after = acted t p (left rest s) in
      let made = step_kept l p s s g.here t rest has b.goes_on in
      let st = pattern_step l p arena below (left rest s) (kept_here s (left rest s) kept) t is
      (task_is l p s s g.here t rest has) in
      goes_after s after e made (does_kept l p rest b.steps new after after e b.others (kept_here s after made))
      (steady_leaving p s after rest st.steady) g

  -- the type that was given last is taken
  record Took (m n : Inference) (value : ℕ) (given : List ℕ) : Type 0 where
    kept : Kept m n
    has : Has n value

  took_so :
      (rest : List Task) (t : Task) (m : Inference) (value : ℕ) (given : List ℕ) → Kept m m → m.tasks ≡ t ∷ rest
      → m.given ≡ value ∷ given
      → Took m (record m { tasks = rest; given = given }) value given
  took_so rest t m value given here has gave =
      let k = rest_kept l p m m here t rest has in
      let P : Gives → Type 0 = λ g. Kept m g.state × Has g.state g.found in
      let both : P (record { found = value; state = record m { tasks = rest; given = given } }) =
      subst P (taken_is (left rest m) value given gave) (taken_kept l m (left rest m) k) in
      record { kept = both.0; has = both.1 }

  -- it is equal to a type
  pub record Equal (e : Inference) (a b : ℕ) (given : List ℕ) : Type 0 where
    pub equal : f a ≡ f b
    pub gives : e.given ≡ given

  module _ (rest : List Task) (k : ℕ) (m e : Inference) (g : Goes p f vs m e) where
    equal_end :
        (n : Inference) (at : Place) (a b : ℕ) → Kept m n → Has n a → Has n b → equated at a b n ≡ e → Equal e a b n.given
    equal_end n at a b kept has_a has_b path =
        let to = subst (Goes p f vs m) (sym path) g in
        let leads = equated_leads l m n kept at a b p has_a has_b in
        record {
          equal = equated_equal l m n kept at a b has_a has_b to.room to.on f to.reads;
          gives = ap (λ (x : Inference). x.given) (sym path) ∙ leads.rest.same_given;
        }

    pub is_end :
        (at : Place) (t value : ℕ) (given : List ℕ) → Does p rest k (task.Is at t ∷ []) m e → m.given ≡ value ∷ given → Has m t
        → Equal e value t given
    unfolding acted
    is_end at t value given d gave has_t =
        let n : Inference = record m { tasks = rest; given = given } in
        let took = took_so rest (task.Is at t) m value given g.here (does_tasks p rest k (task.Is at t ∷ []) m e d) gave in
        let is : acted (task.Is at t) p (left rest m) ≡ equated at value t n =
        ap (λ (u : Gives). equated at u.found t u.state) (taken_is (left rest m) value given gave) in
        let there = has_later m n t took.kept has_t in
        let leads = equated_leads l m n took.kept at value t p took.has there in
        let path = at_once p rest k (task.Is at t) m e d (ap (λ (x : Inference). x.tasks) is ∙ leads.rest.same_tasks) in
        equal_end n at value t took.kept took.has there (sym is ∙ path)

    pub give_end : (t : ℕ) → Does p rest k (task.Give t ∷ []) m e → e.given ≡ t ∷ m.given
    unfolding acted
    give_end t d = ap (λ (x : Inference). x.given) (sym (at_once p rest k (task.Give t) m e d refl))

    -- so are the two that were given last
    pub agree_end :
        (at : Place) (b a : ℕ) (given : List ℕ) → Does p rest k (task.Agree at ∷ []) m e → m.given ≡ b ∷ a ∷ given
        → Equal e b a (a ∷ given)
    unfolding acted
    agree_end at b a given d gave =
        let n : Inference = record m { tasks = rest; given = a ∷ given } in
        let u : Inference = record m { tasks = rest; given = given } in
        let took = took_so rest (task.Agree at) m b (a ∷ given) g.here (does_tasks p rest k (task.Agree at ∷ []) m e d) gave in
        let second = taken_kept l m n took.kept in
        let kept : Kept m (record m { tasks = rest; given = a ∷ given }) = given_kept m u a second.0 second.1 in
        let is : acted (task.Agree at) p (left rest m) ≡ equated at b a n =
        ap (λ (v : Gives). let one = taken v.state in equated at v.found one.found (given_back one.found one.state))
        (taken_is (left rest m) b (a ∷ given) gave) in
        let leads = equated_leads l m n kept at b a p took.has second.1 in
        let path = at_once p rest k (task.Agree at) m e d (ap (λ (x : Inference). x.tasks) is ∙ leads.rest.same_tasks) in
        equal_end n at b a kept took.has second.1 (sym is ∙ path)

    -- it is one that is written
    pub annotated_end :
        (at : Place) (w a : ℕ) (given : List ℕ) → w < length p.types → Does p rest k (task.Annotated at w ∷ []) m e
        → m.given ≡ a ∷ given
        → Means (program p).types vs (type_at (types_of p) w) (f a) × (e.given ≡ a ∷ given)
    unfolding acted
    annotated_end at w a given low d gave =
        let n : Inference = record m { tasks = rest; given = a ∷ given } in
        let u : Inference = record m { tasks = rest; given = given } in
        let took = took_so rest (task.Annotated at w) m a given g.here (does_tasks p rest k (task.Annotated at w ∷ []) m e d)
        gave in
        let kept : Kept m n = given_kept m u a took.kept took.has in
        let is : acted (task.Annotated at w) p (left rest m) ≡ annotated_if p at a (Some w) n =
        ap (λ (v : Gives). annotated_if p at v.found (Some w) (given_back v.found v.state)) (taken_is (left rest m) a given gave) in
        let leads = annotated_leads l p arena m n kept at a took.has (Some w) in
        let path = at_once p rest k (task.Annotated at w) m e d (ap (λ (x : Inference). x.tasks) is ∙ leads.rest.same_tasks) in
        let to = subst (Goes p f vs m) (sym path ∙ is) g in (
          annotated_meant l p arena m n kept at a took.has (Some w) low to.room to.on g.meant f vs to.reads to.agree,
          ap (λ (x : Inference). x.given) (sym path ∙ is) ∙ leads.rest.same_given,
        )

    -- it is that of a name that is bound
    pub alias_end :
        (at : Place) (x a : ℕ) (given : List ℕ) → Does p rest k (task.Alias at x ∷ []) m e → m.given ≡ a ∷ given
        → IsBound f e (x, f a) × (e.given ≡ a ∷ given)
    unfolding acted acted_on_data
    alias_end at x a given d gave =
        let n : Inference = record m { tasks = rest; given = a ∷ given } in
        let u : Inference = record m { tasks = rest; given = given } in
        let took = took_so rest (task.Alias at x) m a given g.here (does_tasks p rest k (task.Alias at x ∷ []) m e d) gave in
        let kept : Kept m n = given_kept m u a took.kept took.has in
        let b = bound x n in
        let names = name_bound l p m n kept x in
        let made = bound_made l p m n kept x in
        let here = bound_made l p n n (kept_here m n kept) x in
        let there = has_later n b.state a here.0 took.has in
        let is : acted (task.Alias at x) p (left rest m) ≡ equated at b.found a b.state =
        ap (λ (v : Gives). let c = bound x (given_back v.found v.state) in equated at c.found v.found c.state)
        (taken_is (left rest m) a given gave) in
        let leads = equated_leads l m b.state made.0 at b.found a p made.1 there in
        let path = at_once p rest k (task.Alias at x) m e d
        (ap (λ (y : Inference). y.tasks) is ∙ leads.rest.same_tasks ∙ names.tasks) in
        let to : equated at b.found a b.state ≡ e = sym is ∙ path in
        let same = equal_end b.state at b.found a made.0 made.1 there to in
        let known_there : known (equated at b.found a b.state).names x ≡ Some (One b.found (equated at b.found a b.state).pattern) =
        ap (λ xs. known xs x) leads.rest.same_names ∙ names.bound ∙ ap (λ r. Some (One b.found r))
        (sym leads.rest.same_pattern) in (
          (b.found, subst (λ (y : Inference). known y.names x ≡ Some (One b.found y.pattern)) to known_there, same.equal),
          same.gives ∙ names.given,
        )
