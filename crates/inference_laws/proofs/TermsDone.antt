-- The walk over a term gives what the rules of terms say: terms without patterns, records and handlers.
use Rattle.std.proofs.Common.{◌≡◌, ℕ, List, [], ◌∷◌, ◌++◌, Option, Some, None, refl, ◌∙◌, ap, subst, slice_get}
use Rattle.std.specs.Prelude.{IsTrue}
use Rattle.fx_base.specs.declared.refusal.Place.{Place}
use Rattle.effect_meaning.specs.declared.core_nodes.TermForm.TheVariants as form
use Rattle.effect_meaning.specs.declared.core_nodes.TermNode.{TermNode}
use Rattle.effect_meaning.specs.Arena.{Parts}
use Rattle.effect_meaning.specs.ArenaTrees.{pattern_at, patterns_of, term_at, terms_of}
use Rattle.effect_meaning.specs.Scoped.{Scope, sides_agree, term_scoped}
use Rattle.effect_meaning.specs.Terms.{Term, App}
use Rattle.type_terms.specs.TypeTrees.{Ty}
use Rattle.type_terms.specs.Contexts.{Names}
use Rattle.type_terms.specs.Typing.{HasType}
use Rattle.ml_infer.specs.declared.inference.Inference.{Inference}
use Rattle.ml_infer.specs.declared.tasks.Task.{Task}
use Rattle.ml_infer.specs.declared.tasks.Task.TheVariants as task
use Rattle.ml_infer.specs.Inference.{term_place}
use Rattle.ml_infer.specs.Terms.{term_node, term_of}
use Rattle.ml_infer.specs.Walk.{acted}
use Rattle.inference_laws.specs.Meanings.{ReadsAreMeant, VariablesAgree}
use Rattle.inference_laws.proofs.Kept.{Kept, Has, kept_here, room_before}
use Rattle.inference_laws.proofs.Fields.{first_kept}
use Rattle.inference_laws.proofs.GraphLaws.{GraphLaws}
use Rattle.inference_laws.proofs.Runs.{left, Does, parted, begins}
use Rattle.inference_laws.proofs.Grounds.{Tops, standing, scope_of, HasScope, Ground, Ending, TermDone, Asked, PatternIsDone}
use Rattle.inference_laws.proofs.Booleans.{both_hold}
use Rattle.inference_laws.proofs.Following.{agree_at, follows_on, ground_later}
use Rattle.inference_laws.proofs.Doing.{does_kept}
use Rattle.inference_laws.proofs.TasksDone.{apply_done, follows_given, is_done, task_left}

-- what the equations of a term are shown of: where it is done in a scope, it has the type that it gives
abbrev pub TermIsRuled : Parts → (ℕ → Ty) → Tops → (ℕ → Ty) → ℕ → Type 0
TermIsRuled p f tops vs n =
    (sc : Scope) (names : Names) (rest : List Task) (k : ℕ) (s e : Inference) → Does p rest k (task.Term n ∷ []) s e → Ending f e
    → Ground p f tops s names → HasScope sc tops names → IsTrue (term_scoped sc (term_at (terms_of p) n))
    → TermDone p f tops names vs (term_at (terms_of p) n) s e

-- what the equations of a pattern are shown of: where a pattern of a type is done, its names are bound and have their types
abbrev pub PatternIsRuled : Parts → (ℕ → Ty) → Tops → ℕ → Type 0
PatternIsRuled p f tops q =
    (vs : ℕ → Ty) (names : Names) (rest : List Task) (k t : ℕ) (s e : Inference) → Does p rest k (task.PatternIs q t ∷ []) s e
    → Kept s s
    → Has s t → Ending f e → ReadsAreMeant p s → VariablesAgree f vs e → IsTrue (sides_agree (pattern_at (patterns_of p) q))
    → PatternIsDone p f (standing p tops names vs) (pattern_at (patterns_of p) q) t s e

module _ (l : GraphLaws) (p : Parts) (f : ℕ → Ty) (tops : Tops) (vs : ℕ → Ty) where
  -- where a part of a walk ends, its end is as that of the whole
  pub ending_before : (s e : Inference) → Kept s e → Ending f e → Ending f s
  ending_before s e kept ending = record {
    room = room_before s e kept ending.room;
    on = kept.ended ending.on;
    reads = kept.reads ending.room ending.on f ending.reads;
  }

  -- a term that has this type
  pub record HasThis (names : Names) (a : Term) (t : Ty) (s e : Inference) : Type 0 where
    pub asked : Asked p tops names s e
    pub typed : VariablesAgree f vs e → HasType (standing p tops names vs) a t

  pub term_is_done :
      (n : ℕ) → TermIsRuled p f tops vs n → (sc : Scope) (names : Names) (rest : List Task) (k : ℕ) (t : ℕ) (s e : Inference)
      → Does p rest k (task.TermIs n t ∷ []) s e → Ending f e → Ground p f tops s names → HasScope sc tops names
      → IsTrue (term_scoped sc (term_at (terms_of p) n)) → HasThis names (term_at (terms_of p) n) (f t) s e
  unfolding acted
  term_is_done n rule sc names rest k t s e d ending ground scope scoped =
      let at = term_place p n s in
      let new = task.Term n ∷ task.Is at t ∷ [] in
      let b = begins p rest k (task.TermIs n t) new s e d refl in
      let left_s = task_left l p rest k (task.TermIs n t) s e d ground.here in
      let s1 : Inference = record s { tasks = new ++ rest } in
      let s1_kept : Kept s s1 =
      first_kept s (left rest s) new left_s.0 (λ room. (tt, (left_s.1 room, tt))) in
      let s1_follows = follows_given l p (scope_of tops names) s (new ++ rest) s.given s1_kept in
      let q = parted p rest b.steps (task.Term n ∷ []) (task.Is at t ∷ []) s1 e b.others in
      let m = q.middle in
      let m_kept = does_kept l p (task.Is at t ∷ rest) q.first_steps (task.Term n ∷ []) s1 s1 m q.first_part
      (kept_here s s1 s1_kept) in
      let e_kept = does_kept l p rest q.other_steps (task.Is at t ∷ []) m m e q.other_part (kept_here s1 m m_kept) in
      let ending_m = ending_before m e e_kept ending in
      let ending_1 = ending_before s1 m m_kept ending_m in
      let ground_1 = ground_later p f tops s s1 names ending_1.room ending_1.on ground s1_follows in
      let done = rule sc names (task.Is at t ∷ rest) q.first_steps s1 m q.first_part ending_m ground_1 scope scoped in
      let equal =
      is_done l p f (scope_of tops names) rest q.other_steps at t done.value s.given m e q.other_part
      (kept_here s1 m m_kept) done.gives ending in
      record {
        asked = record {
          gives = equal.gives;
          follows =
              follows_on p (scope_of tops names) s s1 e s1_follows
              (follows_on p (scope_of tops names) s1 m e done.follows equal.follows);
        };
        typed =
            λ agree.
            subst (HasType (standing p tops names vs) (term_at (terms_of p) n)) equal.equal
            (done.typed (agree_at p f vs (scope_of tops names) m e equal.follows agree));
      }

  -- the step by which a term is entered
  pub step_of :
      (n : ℕ) (node : TermNode) (s : Inference) → slice_get p.terms n ≡ Some node
      → acted (task.Term n) p s ≡ term_of node.form p n node.place s
  unfolding acted
  step_of n node s is = ap (λ (o : Option TermNode). term_node o p n s) is

  -- a term is entered: what it puts first is done from the state behind that step
  pub record Entered (rest new : List Task) (s s1 e : Inference) : Type 0 where
    pub goes_on : s.end ≡ None
    pub before : Kept s (left rest s)
    pub steps : ℕ
    pub others : Does p rest steps new s1 e

  pub entered :
      (n : ℕ) (node : TermNode) → slice_get p.terms n ≡ Some node → (rest new : List Task) (k : ℕ) (s s1 e : Inference)
      → Does p rest k (task.Term n ∷ []) s e → Kept s s → term_of node.form p n node.place (left rest s) ≡ s1
      → s1.tasks ≡ new ++ rest
      → Entered rest new s s1 e
  entered n node is rest new k s s1 e d kept one pushed =
      let step = step_of n node (left rest s) is ∙ one in
      let b = begins p rest k (task.Term n) new s e d (ap (λ (x : Inference). x.tasks) step ∙ pushed) in
      record {
        goes_on = b.goes_on;
        before = (task_left l p rest k (task.Term n) s e d kept).0;
        steps = b.steps;
        others = subst (λ (x : Inference). Does p rest b.steps new x e) step b.others;
      }

  -- what is shown of each form, in a node with this number: the tree that it makes has the type that the term gives
  abbrev pub FormIsRuled : (n : ℕ) → TermNode → Term → Type 0
  FormIsRuled n node a =
      (sc : Scope) (names : Names) (rest : List Task) (k : ℕ) (s e : Inference) → Does p rest k (task.Term n ∷ []) s e → Ending f e
      → Ground p f tops s names → HasScope sc tops names → IsTrue (term_scoped sc a) → TermDone p f tops names vs a s e

  abbrev pub Rule : ℕ → Type 0
  Rule n = TermIsRuled p f tops vs n

  abbrev pub tree : ℕ → Term
  tree n = term_at (terms_of p) n

  -- f a
  pub apply_ruled :
      (n : ℕ) (at : Place) (fn a : ℕ) → slice_get p.terms n ≡ Some (record {
        place = at;
        form = form.Apply fn a;
      }) → Rule fn → Rule a
      → FormIsRuled n (record { place = at; form = form.Apply fn a }) (App (tree fn) (tree a))
  unfolding term_of
  apply_ruled n at fn a is rule_fn rule_a sc names rest k s e d ending ground scope scoped =
      let scope_here = scope_of tops names in
      let last = task.Apply (term_place p fn s) (term_place p a s) in
      let new = task.Term fn ∷ task.Term a ∷ last ∷ [] in
      let s1 : Inference = record s { tasks = new ++ rest } in
      let b = entered n (record { place = at; form = form.Apply fn a }) is rest new k s s1 e d ground.here refl refl in
      let s1_kept : Kept s s1 = first_kept s (left rest s) new b.before (λ room. (tt, (tt, (tt, tt)))) in
      let s1_follows = follows_given l p scope_here s (new ++ rest) s.given s1_kept in
      let q = parted p rest b.steps (task.Term fn ∷ []) (task.Term a ∷ last ∷ []) s1 e b.others in
      let r = parted p rest q.other_steps (task.Term a ∷ []) (last ∷ []) q.middle e q.other_part in
      let m1_kept = does_kept l p (task.Term a ∷ last ∷ rest) q.first_steps (task.Term fn ∷ []) s1 s1 q.middle q.first_part
      (kept_here s s1 s1_kept) in
      let m1_here = kept_here s1 q.middle m1_kept in
      let m2_kept = does_kept l p (last ∷ rest) r.first_steps (task.Term a ∷ []) q.middle q.middle r.middle r.first_part m1_here in
      let m2_here = kept_here q.middle r.middle m2_kept in
      let e_kept = does_kept l p rest r.other_steps (last ∷ []) r.middle r.middle e r.other_part m2_here in
      let ending_2 = ending_before r.middle e e_kept ending in
      let ending_1 = ending_before q.middle r.middle m2_kept ending_2 in
      let ending_s1 = ending_before s1 q.middle m1_kept ending_1 in
      let both = both_hold (term_scoped sc (tree fn)) (term_scoped sc (tree a)) scoped in
      let ground_1 = ground_later p f tops s s1 names ending_s1.room ending_s1.on ground s1_follows in
      let one = rule_fn sc names (task.Term a ∷ last ∷ rest) q.first_steps s1 q.middle q.first_part ending_1 ground_1 scope both.0 in
      let ground_2 = ground_later p f tops s1 q.middle names ending_1.room ending_1.on ground_1 one.follows in
      let two = rule_a sc names (last ∷ rest) r.first_steps q.middle r.middle r.first_part ending_2 ground_2 scope both.1 in
      let given = two.gives ∙ ap (λ (gs : List ℕ). two.value ∷ gs) one.gives in
      let three =
      apply_done l p f scope_here rest r.other_steps (term_place p fn s)
      (term_place p a s) two.value one.value s.given r.middle e r.other_part
      m2_here given ending in
      let last_follows = three.gave.follows in
      record {
        value = three.result;
        gives = three.gave.gives;
        there = three.gave.there;
        follows =
            follows_on p scope_here s s1 e s1_follows
            (follows_on p scope_here s1 q.middle e one.follows
            (follows_on p scope_here q.middle r.middle e two.follows last_follows));
        typed =
            λ agree.
            let agree_2 = agree_at p f vs scope_here r.middle e last_follows agree in
            let agree_1 = agree_at p f vs scope_here q.middle r.middle two.follows agree_2 in (
              f two.value,
              subst (HasType (standing p tops names vs) (tree fn)) three.applies (one.typed agree_1),
              two.typed agree_2,
            );
      }
