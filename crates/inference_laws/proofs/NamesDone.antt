-- The walk over a name gives a type that its use may have.
use Rattle.std.proofs.Common.{◌≡◌, ℕ, zero, suc, ◌<◌, ◌≤◌, List, [], ◌∷◌, ◌++◌, length, Option, Some, None, true, false, ◌||◌, refl, sym, ◌∙◌, ap, subst, arith, slice_get, ⊎_elim}
use Rattle.std.specs.Prelude.{IsTrue, MatchBool}
use Rattle.std.specs.List.{AllByRecursion}
use Rattle.std.proofs.lemmas.Bool.Decides.{eqb_tells}
use Rattle.fx_base.specs.declared.refusal.Place.{Place}
use Rattle.effect_meaning.specs.declared.core_nodes.TermForm.TheVariants as form
use Rattle.effect_meaning.specs.Arena.{Parts}
use Rattle.effect_meaning.specs.Scoped.{Scope, holds}
use Rattle.effect_meaning.specs.Terms.{Var}
use Rattle.type_terms.specs.TypeTrees.{Ty}
use Rattle.type_terms.specs.Contexts.{Names, NameHas}
use Rattle.type_graph.specs.Copied.{copied}
use Rattle.type_graph.specs.Outer.{item_ended}
use Rattle.type_readings.specs.Readings.{Reads}
use Rattle.type_readings.specs.Laws.{AgreeOnOuter}
use Rattle.type_readings.specs.WellFormed.{IsGiving, IsOuterOr, IsWellFormed}
use Rattle.ml_infer.specs.declared.inference.Inference.{Inference}
use Rattle.ml_infer.specs.declared.inference.NameType.{NameType}
use Rattle.ml_infer.specs.declared.inference.NameType.TheVariants.{One, Generalised}
use Rattle.ml_infer.specs.declared.tasks.Task.{Task}
use Rattle.ml_infer.specs.declared.tasks.Task.TheVariants as task
use Rattle.ml_infer.specs.Inference.{Gives, type_of_known}
use Rattle.ml_infer.specs.Known.{known}
use Rattle.ml_infer.specs.Patterns.{give_found}
use Rattle.ml_infer.specs.Terms.{term_of}
use Rattle.inference_laws.specs.Whole.{HasRoom, IfKnown, NameIsThere}
use Rattle.inference_laws.proofs.Each.{known_at}
use Rattle.inference_laws.proofs.Kept.{Has, kept_here, room_before}
use Rattle.inference_laws.proofs.GraphLaws.{GraphLaws}
use Rattle.inference_laws.proofs.Steps.{copy_is, copy_kept, ended_kept, given_few}
use Rattle.inference_laws.proofs.Fields.{given_kept}
use Rattle.inference_laws.proofs.Runs.{left, Does}
use Rattle.inference_laws.proofs.Grounds.{Tops, NamesAgree, TopIs, names_of, scope_of, HasScope, Ground, Follows, TermDone}
use Rattle.inference_laws.proofs.Following.{follows_on}
use Rattle.inference_laws.proofs.TasksDone.{follows_given, task_left}
use Rattle.inference_laws.proofs.TermsDone.{FormIsRuled, entered}

-- what is known of a name has this type
one_type : (v w q r : ℕ) → Some (One v q) ≡ Some (One w r) → v ≡ w
one_type v w q r e = cc

module _ (f : ℕ → Ty) (s : Inference) (x : ℕ) where
  -- a local name is of one type, which is its own
  pub local_known :
      (names : Names) → NamesAgree f s names → IsTrue (holds (names_of names) x)
      → (v : ℕ) × (q : ℕ) × (known s.names x ≡ Some (One v q))
  local_known [] agree is = absurd (cc)
  local_known (n ∷ names) agree is =
      ⊎_elim
      (λ p. (agree.0.0, agree.0.1, ap (λ y. known s.names y) p.1 ∙ agree.0.2))
      (λ p. local_known names agree.1 (subst (λ b. IsTrue (b || holds (names_of names) x)) p.0 is))
      (eqb_tells x n.0)

  pub local_has :
      (names : Names) (v q : ℕ) (otherwise : Type 0) → NamesAgree f s names → known s.names x ≡ Some (One v q)
      → (holds (names_of names) x ≡ false → otherwise) → NameHas names x (f v) otherwise
  local_has [] v q otherwise agree is other = other refl
  local_has (n ∷ names) v q otherwise agree is other =
      ⊎_elim
      (λ p.
      let same : agree.0.0 ≡ v = one_type agree.0.0 v agree.0.1 q (sym agree.0.2 ∙ ap (λ y. known s.names y) (sym p.1) ∙ is) in
      subst (λ b. MatchBool b (f v ≡ n.1) (NameHas names x (f v) otherwise)) (sym p.0) (ap f (sym same) ∙ agree.0.3))
      (λ p.
      subst (λ b. MatchBool b (f v ≡ n.1) (NameHas names x (f v) otherwise)) (sym p.0)
      (local_has names v q otherwise agree.1 is (λ none. other (ap (λ b. b || holds (names_of names) x) p.0 ∙ none))))
      (eqb_tells x n.0)

  -- one that isn't local
  pub elsewhere_has :
      (names : Names) (t : Ty) (otherwise : Type 0) → holds (names_of names) x ≡ false → otherwise → NameHas names x t otherwise
  elsewhere_has [] t otherwise none other = other
  elsewhere_has (n ∷ names) t otherwise none other =
      ⊎_elim
      (λ p. absurd (cc))
      (λ p.
      subst (λ b. MatchBool b (t ≡ n.1) (NameHas names x t otherwise)) (sym p.0)
      (elsewhere_has names t otherwise (ap (λ b. b || holds (names_of names) x) (sym p.0) ∙ none) other))
      (eqb_tells x n.0)

-- a name in scope that isn't local is a top-level one
top_is : (xs ys : List ℕ) (x : ℕ) → IsTrue (holds (xs ++ ys) x) → holds xs x ≡ false → IsTrue (holds ys x)
top_is [] ys x is none = is
top_is (z ∷ xs) ys x is none =
    ⊎_elim
    (λ p. absurd (cc))
    (λ p.
    top_is xs ys x (subst (λ b. IsTrue (b || holds (xs ++ ys) x)) p.0 is) (ap (λ b. b || holds xs x) (sym p.0) ∙ none))
    (eqb_tells x z)

module _ (l : GraphLaws) (p : Parts) (f : ℕ → Ty) (tops : Tops) (vs : ℕ → Ty) where
  -- what a use of a name leaves
  record UseDone (scope : List ℕ) (x : ℕ) (names : Names) (s : Inference) (g : Gives) : Type 0 where
    given : g.state.given ≡ s.given
    tasks : g.state.tasks ≡ s.tasks
    there : Has g.state g.found
    follows : Follows p scope s g.state
    typed : HasRoom g.state.types → Reads f g.state.types → NameHas names x (f g.found) (tops.uses x (f g.found))

  -- a use of a generalised name: a copy
  module _ (scope : List ℕ) (x t : ℕ) (names : Names) (s : Inference) where
    copied_done :
        s.end ≡ None → Ground p f tops s names → Has s t → holds (names_of names) x ≡ false
        → ((k : ℕ → Ty) → Reads k s.types → AllByRecursion (λ m. k m ≡ f m) tops.outers → tops.uses x (k t))
        → UseDone scope x names s (type_of_known (Some (Generalised t)) x s)
    copied_done on ground has none uses =
        let c = copied t (item_ended s.types) in
        let kept = copy_kept l s s t on ground.here has in
        record {
          given = refl;
          tasks = refl;
          there = copy_is l s s t on ground.here has;
          follows = record {
            kept = kept;
            item = refl;
            stay = λ v k is item. is;
            meant = λ room go meant g reads. meant g (kept.reads room go g reads);
            same = λ y is. refl;
          };
          typed =
              λ room reads.
              let before = room_before s (record s { types = c.types }) kept room in
              let whole = (ground.here.whole before).types in
              let giving = whole.giving on in
              let copyable = l.end_copyable s.types whole.well giving in
              let ended = ended_kept l s s ground.here in
              let grows = l.copy_numbers t c.copy (item_ended s.types) c.types refl in
              let more = grows.0 in
              let most = room.types in
              let as_many = (l.end_numbers s.types).0.0 in
              let low = has before in
              let k = l.copy_read t c.copy (item_ended s.types) c.types f (l.end_form s.types whole.well) copyable
              (omega arith) refl (omega arith) reads in
              let outers = ground.outers before in
              elsewhere_has f s x names (f c.copy) (tops.uses x (f c.copy)) none
              (subst (tops.uses x) k.3
              (uses k.0 ((l.end_reads s.types k.0).0 k.1)
              (outer_same k.0 k.2 tops.outers (given_few s.types whole.well giving) whole.well giving outers)));
        }
      where
        outer_same :
            (k : ℕ → Ty) → AgreeOnOuter f k (item_ended s.types) → (ms : List ℕ) → length s.types.given ≤ 33554432
            → IsWellFormed s.types
            → IsGiving s.types → AllByRecursion (λ m. (m < length s.types.nodes) × IsOuterOr s.types s.types.given m) ms
            → AllByRecursion (λ m. k m ≡ f m) ms
        outer_same k agree [] few well giving h = tt
        outer_same k agree (m ∷ ms) few well giving h = (
          agree m (l.end_outer s.types well m h.0.1 giving.given_numbers few),
          outer_same k agree ms few well giving h.1,
        )

  -- a use of a name in scope
  use_done :
      (sc : Scope) (x : ℕ) (names : Names) (s : Inference) → s.end ≡ None → Ground p f tops s names → HasScope sc tops names
      → IsTrue (holds sc.names x) → (o : Option NameType) → known s.names x ≡ o
      → UseDone (scope_of tops names) x names s (type_of_known o x s)
  use_done sc x names s on ground same scoped o is =
      let among : IsTrue (holds (scope_of tops names) x) = subst IsTrue (same x) scoped in
      elim (holds (names_of names) x) as (λ b. holds (names_of names) x ≡ b
      → UseDone (scope_of tops names) x names s (type_of_known o x s)) [
        | true ↦ λ local. local_done local o is
        | false ↦ λ none. top_done none (top_is (names_of names) tops.names x among none) o is
      ]
      refl
    where
      unchanged :
          (t : ℕ) → Has s t → (HasRoom s.types → Reads f s.types → NameHas names x (f t) (tops.uses x (f t)))
          → UseDone (scope_of tops names) x names s (record { found = t; state = s })
      unchanged t has typed = record {
        given = refl;
        tasks = refl;
        there = has;
        follows = record {
          kept = ground.here;
          item = refl;
          stay = λ v k is item. is;
          meant = λ room go meant. meant;
          same = λ y is. refl;
        };
        typed = typed;
      }

      has_known : (t q : ℕ) → known s.names x ≡ Some (One t q) → Has s t
      has_known t q e room =
          subst (IfKnown (NameIsThere (length s.types.nodes))) e
          (known_at (NameIsThere (length s.types.nodes)) s.names x (ground.here.whole room).tables.names_there)

      has_general : (t : ℕ) → known s.names x ≡ Some (Generalised t) → Has s t
      has_general t e room =
          subst (IfKnown (NameIsThere (length s.types.nodes))) e
          (known_at (NameIsThere (length s.types.nodes)) s.names x (ground.here.whole room).tables.names_there)

      local_done :
          IsTrue (holds (names_of names) x) → (o : Option NameType) → known s.names x ≡ o
          → UseDone (scope_of tops names) x names s (type_of_known o x s)
      local_done local None e = let k = local_known f s x names ground.locals local in absurd (cc)
      local_done local (Some (Generalised t)) e = let k = local_known f s x names ground.locals local in absurd (cc)
      local_done local (Some (One t q)) e =
          unchanged t (has_known t q e) (λ room reads. local_has f s x names t q (tops.uses x (f t)) ground.locals e
          (λ none. absurd (cc)))

      top_done :
          holds (names_of names) x ≡ false → IsTrue (holds tops.names x) → (o : Option NameType) → known s.names x ≡ o
          → UseDone (scope_of tops names) x names s (type_of_known o x s)
      top_done none top None e = absurd (subst (TopIs f s tops x) e (ground.globals x top))
      top_done none top (Some (One t q)) e =
          unchanged t (has_known t q e)
          (λ room reads. elsewhere_has f s x names (f t) (tops.uses x (f t)) none
          (subst (TopIs f s tops x) e (ground.globals x top)))
      top_done none top (Some (Generalised t)) e =
          copied_done (scope_of tops names) x t names s on ground (has_general t e) none
          (subst (TopIs f s tops x) e (ground.globals x top))

  -- x
  pub name_ruled :
      (n : ℕ) (at : Place) (x : ℕ) → slice_get p.terms n ≡ Some (record { place = at; form = form.Name x })
      → FormIsRuled l p f tops vs n (record { place = at; form = form.Name x }) (Var x)
  unfolding term_of
  name_ruled n at x is sc names rest k s e d ending ground same scoped =
      let before = task_left l p rest k (task.Term n) s e d ground.here in
      let under = left rest s in
      let s2 = type_of_known (known s.names x) x under in
      let s1 = give_found s2 in
      let on = going rest k n s e d in
      let ground_2 : Ground p f tops under names = record {
        here = kept_here s under before.0;
        meant = ground.meant;
        locals = ground.locals;
        counted = ground.counted;
        globals = ground.globals;
        outers = ground.outers;
      } in
      let found = use_done sc x names under on ground_2 same scoped (known s.names x) refl in
      let enter = entered l p f tops vs n (record {
        place = at;
        form = form.Name x;
      }) is rest [] k s s1 e d ground.here refl found.tasks in
      let end : s1 ≡ e = enter.others.1 in
      let all = given_kept under s2.state s2.found found.follows.kept found.there in
      let gave = follows_given l p (scope_of tops names) s2.state s2.state.tasks (s2.found ∷ s2.state.given)
      (given_kept s2.state s2.state s2.found (kept_here under s2.state found.follows.kept) found.there) in
      let there : HasRoom s1.types × Reads f s1.types = subst (λ (z : Inference). HasRoom z.types × Reads f z.types) (sym end)
      (ending.room, ending.reads) in
      subst (λ (z : Inference). TermDone p f tops names vs (Var x) s z) end
      (record {
        value = s2.found;
        gives = ap (λ gs. s2.found ∷ gs) found.given;
        there = found.there;
        follows =
            follows_on p (scope_of tops names) s under s1 (follows_given l p (scope_of tops names) s rest s.given before.0)
            (follows_on p (scope_of tops names) under s2.state s1 found.follows gave);
        typed = λ agree. found.typed there.0 there.1;
      })
    where
      going : (rest : List Task) (k n : ℕ) (s e : Inference) → Does p rest k (task.Term n ∷ []) s e → s.end ≡ None
      going rest zero n s e d = absurd d
      going rest (suc k) n s e d = d.0
