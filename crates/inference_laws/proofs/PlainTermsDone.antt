-- The walk over a term gives what the rules of terms say: constants, functions, local names, sequences, tests, written types.
use Rattle.std.proofs.Common.{◌≡◌, ℕ, ◌<◌, List, [], ◌∷◌, ◌++◌, length, Some, refl, sym, ◌∙◌, ap, subst, slice_get, arith}
use Rattle.std.specs.Prelude.{IsTrue, ◌&&◌}
use Rattle.fx_base.specs.declared.refusal.Place.{Place}
use Rattle.effect_meaning.specs.declared.core_nodes.Constant.{Constant}
use Rattle.effect_meaning.specs.declared.core_nodes.Constant.TheVariants as constant
use Rattle.effect_meaning.specs.declared.core_nodes.TermForm.TheVariants as form
use Rattle.effect_meaning.specs.declared.core_nodes.TermNode.{TermNode}
use Rattle.effect_meaning.specs.Arena.{Parts, IsArena}
use Rattle.effect_meaning.specs.ArenaTrees.{constant_of, program, term_at, terms_of, type_at, types_of}
use Rattle.effect_meaning.specs.Scoped.{holds, is_new, term_scoped, type_known, with_names}
use Rattle.effect_meaning.specs.Terms.{Annot, Const, Fun, If, Let, Seq, Term}
use Rattle.type_terms.specs.Constructors.{constant_type}
use Rattle.type_terms.specs.Contexts.{Names}
use Rattle.type_terms.specs.TypeTrees.{Ty, bool}
use Rattle.type_terms.specs.Typing.{HasType}
use Rattle.type_terms.specs.WrittenTypes.{Means}
use Rattle.type_graph.specs.Graph.{built_in}
use Rattle.type_readings.specs.Readings.{Reads}
use Rattle.ml_infer.specs.declared.inference.Inference.{Inference}
use Rattle.ml_infer.specs.declared.inference.NameType.TheVariants.{One}
use Rattle.ml_infer.specs.declared.tasks.Task.{Task}
use Rattle.ml_infer.specs.declared.tasks.Task.TheVariants as task
use Rattle.ml_infer.specs.Constructors.{constant_row}
use Rattle.ml_infer.specs.Inference.{Gives, given_back, new_variable, of_one_type, term_place}
use Rattle.ml_infer.specs.Known.{known}
use Rattle.ml_infer.specs.Terms.{plain_term, term_of}
use Rattle.ml_infer.specs.Walk.{acted}
use Rattle.ml_infer.specs.Written.{annotated_if}
use Rattle.inference_laws.specs.Meanings.{VariablesAgree}
use Rattle.inference_laws.proofs.Kept.{Kept, Has, has_later, kept_here}
use Rattle.inference_laws.proofs.Fields.{first_kept, given_kept, name_kept}
use Rattle.inference_laws.proofs.GraphLaws.{GraphLaws}
use Rattle.inference_laws.proofs.Constructors.{has_built_in}
use Rattle.inference_laws.proofs.Leading.{variable_leads}
use Rattle.inference_laws.proofs.Noting.{noted_same}
use Rattle.inference_laws.proofs.Runs.{left, Does}
use Rattle.inference_laws.proofs.Steps.{variable_is, variable_made}
use Rattle.inference_laws.proofs.Trees.{term_met}
use Rattle.inference_laws.proofs.Written.{annotated_kept}
use Rattle.inference_laws.proofs.WrittenMeant.{annotated_leads, annotated_meant}
use Rattle.inference_laws.proofs.Grounds.{Tops, standing, scope_of, Ground, Ending, Follows, TermDone}
use Rattle.inference_laws.proofs.Booleans.{both_hold}
use Rattle.inference_laws.proofs.Following.{agree_at, follows_leads, follows_noted, follows_on, follows_within, ground_later, ground_with, holds_later, new_apart, scope_with}
use Rattle.inference_laws.proofs.Steady.{taken_is}
use Rattle.inference_laws.proofs.TasksDone.{agree_done, follows_given, forget_done, lambda_done, once_done, task_left, ungiven}
use Rattle.inference_laws.proofs.TermsDone.{FormIsRuled, TermIsRuled, ending_before, entered, term_is_done}
use Rattle.inference_laws.proofs.TermsFirst.{between, puts, term_first}

module _ (l : GraphLaws) (p : Parts) (f : ℕ → Ty) (tops : Tops) (vs : ℕ → Ty) where
  -- the rule of a term, its tree, and what is shown of a form
  abbrev Rule : ℕ → Type 0
  Rule n = TermIsRuled p f tops vs n

  abbrev tree : ℕ → Term
  tree n = term_at (terms_of p) n

  abbrev IsRuled : (n : ℕ) → TermNode → Term → Type 0
  IsRuled n node a = FormIsRuled l p f tops vs n node a

  -- a further type was given
  more_given : (now before was : List ℕ) (v : ℕ) → now ≡ v ∷ before → before ≡ was → now ≡ v ∷ was
  more_given now before was v gives same = subst (λ gs. now ≡ v ∷ gs) same gives

  -- a term has an equal type
  has_equal :
      (names : Names) (a : Term) (t u : Ty) → t ≡ u → HasType (standing p tops names vs) a t
      → HasType (standing p tops names vs) a u
  has_equal names a t u same has = subst (HasType (standing p tops names vs) a) same has

  -- the built-in types of constants
  constant_read : Reads f built_in → (c : Constant) → f (constant_row c) ≡ constant_type (constant_of c)
  constant_read built (constant.Integer n) = built 0
  constant_read built (constant.Character n) = built 2
  constant_read built (constant.Boolean b) = built 1
  constant_read built constant.Unit = built 4
  constant_read built (constant.Literal i) = built 3

  constant_low : (c : Constant) → constant_row c < 6
  constant_low (constant.Integer n) = omega arith
  constant_low (constant.Character n) = omega arith
  constant_low (constant.Boolean b) = omega arith
  constant_low constant.Unit = omega arith
  constant_low (constant.Literal i) = omega arith

  -- a constant
  pub constant_ruled :
      (n : ℕ) (at : Place) (c : Constant) → slice_get p.terms n ≡ Some (record { place = at; form = form.Constant c })
      → (built : Reads f built_in) → IsRuled n (record { place = at; form = form.Constant c }) (Const (constant_of c))
  unfolding term_of
  constant_ruled n at c is built sc names rest k s e d ending ground scope scoped =
      let v = constant_row c in
      let s1 : Inference = record s { tasks = rest; given = v ∷ s.given } in
      let b = entered l p f tops vs n (record { place = at; form = form.Constant c }) is rest [] k s s1 e d ground.here refl refl in
      let has = has_built_in s (left rest s) v b.before (constant_low c) in
      let kept = given_kept s (left rest s) v b.before has in
      let follows = follows_given l p (scope_of tops names) s rest (v ∷ s.given) kept in
      subst (TermDone p f tops names vs (Const (constant_of c)) s) b.others.1
      (record {
        value = v;
        gives = refl;
        there = has;
        follows = follows;
        typed = λ agree. constant_read built c;
      })

  -- a; b
  pub sequence_ruled :
      (n : ℕ) (at : Place) (a b : ℕ) → slice_get p.terms n ≡ Some (record { place = at; form = form.Sequence a b })
      → Rule a → Rule b → IsRuled n (record { place = at; form = form.Sequence a b }) (Seq (tree a) (tree b))
  unfolding term_of plain_term
  sequence_ruled n at a b is rule_a rule_b sc names rest k s e d ending ground scope scoped =
      let here = scope_of tops names in
      let new = task.Term a ∷ task.Forget ∷ task.Term b ∷ [] in
      let s1 : Inference = left (new ++ rest) s in
      let put =
      puts l p f tops vs n (record { place = at; form = form.Sequence a b }) is names rest new k s e d ending ground refl
      (λ room. (tt, (tt, (tt, tt)))) in
      let both = both_hold (term_scoped sc (tree a)) (term_scoped sc (tree b)) scoped in
      let one =
      term_first l p f tops vs a rule_a sc names rest (task.Forget ∷ task.Term b ∷ []) put.steps s1 e put.others ending put.ground
      scope both.0 in
      let q = between l p f tops vs rest one.steps (task.Forget ∷ []) (task.Term b ∷ []) one.middle e one.others one.here ending in
      let forgot =
      forget_done l p here (task.Term b ∷ rest) q.first_steps one.done.value s.given one.middle q.middle q.first_part one.here
      one.done.gives in
      let ground_2 = ground_later p f tops one.middle q.middle names q.ending.room q.ending.on one.ground forgot.1 in
      let two = rule_b sc names rest q.steps q.middle e q.others ending ground_2 scope both.1 in
      let back = follows_on p here one.middle q.middle e forgot.1 two.follows in
      record {
        value = two.value;
        gives = more_given e.given q.middle.given s.given two.value two.gives forgot.0;
        there = two.there;
        follows = follows_on p here s s1 e put.follows (follows_on p here s1 one.middle e one.done.follows back);
        typed = λ agree. (f one.done.value, one.done.typed (agree_at p f vs here one.middle e back agree), two.typed agree);
      }

  -- if test then a else b
  pub if_ruled :
      (n : ℕ) (at : Place) (test a b : ℕ) → slice_get p.terms n ≡ Some (record { place = at; form = form.If test a b })
      → (built : Reads f built_in) → Rule test → Rule a → Rule b
      → IsRuled n (record { place = at; form = form.If test a b }) (If (tree test) (tree a) (tree b))
  unfolding term_of plain_term
  if_ruled n at test a b is built rule_test rule_a rule_b sc names rest k s e d ending ground scope scoped =
      let here = scope_of tops names in
      let last = task.Agree (term_place p b s) in
      let new = task.TermIs test 1 ∷ task.Term a ∷ task.Term b ∷ last ∷ [] in
      let s1 : Inference = left (new ++ rest) s in
      let node : TermNode = record { place = at; form = form.If test a b } in
      let before = (task_left l p rest k (task.Term n) s e d ground.here).0 in
      let put =
      puts l p f tops vs n node is names rest new k s e d ending ground refl
      (λ room. (has_built_in s (left rest s) 1 before (omega arith) room, (tt, (tt, (tt, tt))))) in
      let tree_test = tree test in
      let tree_a = tree a in
      let tree_b = tree b in
      let all = both_hold (term_scoped sc tree_test && term_scoped sc tree_a) (term_scoped sc tree_b) scoped in
      let both = both_hold (term_scoped sc tree_test) (term_scoped sc tree_a) all.0 in
      let others = task.Term a ∷ task.Term b ∷ last ∷ [] in
      let q = between l p f tops vs rest put.steps (task.TermIs test 1 ∷ []) others s1 e put.others put.ground.here ending in
      let zero =
      term_is_done l p f tops vs test rule_test sc names (others ++ rest) q.first_steps 1 s1 q.middle q.first_part q.ending
      put.ground scope both.0 in
      let zero_follows = zero.asked.follows in
      let ground_1 = ground_later p f tops s1 q.middle names q.ending.room q.ending.on put.ground zero_follows in
      let one =
      term_first l p f tops vs a rule_a sc names rest (task.Term b ∷ last ∷ []) q.steps q.middle e q.others ending ground_1 scope
      both.1 in
      let two =
      term_first l p f tops vs b rule_b sc names rest (last ∷ []) one.steps one.middle e one.others ending one.ground scope all.1 in
      let value_a = one.done.value in
      let value_b = two.done.value in
      let gives_a = more_given one.middle.given q.middle.given s.given value_a one.done.gives zero.asked.gives in
      let gives_b = more_given two.middle.given one.middle.given (value_a ∷ s.given) value_b two.done.gives gives_a in
      let agreed =
      agree_done l p f here rest two.steps (term_place p b s) value_b value_a s.given two.middle e two.others two.here gives_b
      ending in
      let to_two = follows_on p here one.middle two.middle e two.done.follows agreed.follows in
      let to_one = follows_on p here q.middle one.middle e one.done.follows to_two in
      record {
        value = value_a;
        gives = agreed.gives;
        there = has_later one.middle e value_a to_two.kept one.done.there;
        follows = follows_on p here s s1 e put.follows (follows_on p here s1 q.middle e zero_follows to_one);
        typed =
            λ agree.
            let agree_q = agree_at p f vs here q.middle e to_one agree in
            let agree_one = agree_at p f vs here one.middle e to_two agree in
            let agree_two = agree_at p f vs here two.middle e agreed.follows agree in (
              has_equal names tree_test (f 1) bool (built 1) (zero.typed agree_q),
              one.done.typed agree_one,
              has_equal names tree_b (f value_b) (f value_a) agreed.equal (two.done.typed agree_two),
            );
      }

  -- a type is taken, which is the one that is written, and given back
  pub record Annotates (scope : List ℕ) (s e : Inference) (v w : ℕ) (gs : List ℕ) : Type 0 where
    pub gives : e.given ≡ v ∷ gs
    pub there : Has e v
    pub follows : Follows p scope s e
    pub meant : VariablesAgree f vs e → Means (program p).types vs (type_at (types_of p) w) (f v)

  pub annotated_done :
      IsArena p → (names : Names) (rest : List Task) (k : ℕ) (at : Place) (v w : ℕ) (gs : List ℕ) (s e : Inference)
      → w < length p.types
      → Does p rest k (task.Annotated at w ∷ []) s e → Ground p f tops s names → s.given ≡ v ∷ gs → Ending f e
      → Annotates (scope_of tops names) s e v w gs
  unfolding acted
  annotated_done arena names rest k at v w gs s e low d ground given ending =
      let here = scope_of tops names in
      let kept = ground.here in
      let below : Inference = record s { tasks = rest; given = gs } in
      let u : Inference = record s { tasks = rest; given = v ∷ gs } in
      let after = annotated_if p at v (Some w) u in
      let step : acted (task.Annotated at w) p (left rest s) ≡ after =
      ap (λ (x : Gives). annotated_if p at x.found (Some w) (given_back x.found x.state)) (taken_is (left rest s) v gs given) in
      let before = (task_left l p rest k (task.Annotated at w) s e d kept).0 in
      let under = ungiven l p s (left rest s) v gs given before in
      let u_kept : Kept s u = given_kept s below v under.0 under.1 in
      let u_here = kept_here s u u_kept in
      let leads = annotated_leads l p arena s u u_kept at v under.1 (Some w) in
      let pushed = ap (λ (x : Inference). x.tasks) step ∙ leads.rest.same_tasks in
      let once = once_done l p rest k (task.Annotated at w) s e d pushed kept in
      let after_here = annotated_kept l p at u u v (Some w) u_here under.1 in
      let to_u = follows_given l p here s rest (v ∷ gs) u_kept in
      let end : after ≡ e = sym step ∙ once.is in
      let ending_after : Ending f after = subst (Ending f) (sym end) ending in
      let ending_u = ending_before l p f tops vs u after after_here ending_after in
      let ground_u = ground_later p f tops s u names ending_u.room ending_u.on ground to_u in
      subst (λ (x : Inference). Annotates here s x v w gs) end
      (record {
        gives = leads.rest.same_given;
        there = has_later u after v after_here under.1;
        follows = follows_on p here s u after to_u (follows_leads p here u after after_here leads);
        meant =
            λ agree.
            annotated_meant l p arena s u u_kept at v under.1 (Some w) low ending_after.room ending_after.on
            (ground_u.meant ending_u.room) f vs ending_after.reads agree;
      })

  -- (a : w)
  pub annotated_ruled :
      IsArena p → (n : ℕ) (at : Place) (a w : ℕ) → slice_get p.terms n ≡ Some (record { place = at; form = form.Annotated a w })
      → Rule a → IsRuled n (record { place = at; form = form.Annotated a w }) (Annot (tree a) (type_at (types_of p) w))
  unfolding term_of plain_term
  annotated_ruled arena n at a w is rule_a sc names rest k s e d ending ground scope scoped =
      let here = scope_of tops names in
      let last = task.Annotated (term_place p a s) w in
      let new = task.Term a ∷ last ∷ [] in
      let s1 : Inference = left (new ++ rest) s in
      let node : TermNode = record { place = at; form = form.Annotated a w } in
      let put = puts l p f tops vs n node is names rest new k s e d ending ground refl (λ room. (tt, (tt, tt))) in
      let low : w < length p.types = (term_met p arena n node is).1.0 in
      let both = both_hold (term_scoped sc (tree a)) (type_known sc (type_at (types_of p) w)) scoped in
      let one =
      term_first l p f tops vs a rule_a sc names rest (last ∷ []) put.steps s1 e put.others ending put.ground scope both.0 in
      let two =
      annotated_done arena names rest one.steps (term_place p a s) one.done.value w s.given one.middle e low one.others one.ground
      one.done.gives ending in
      record {
        value = one.done.value;
        gives = two.gives;
        there = two.there;
        follows = follows_on p here s s1 e put.follows (follows_on p here s1 one.middle e one.done.follows two.follows);
        typed = λ agree. (two.meant agree, one.done.typed (agree_at p f vs here one.middle e two.follows agree));
      }

  -- what follows with a further name follows without it
  without_name :
      (names : Names) (x : ℕ) (t : Ty) (s e : Inference) → Follows p (scope_of tops ((x, t) ∷ names)) s e
      → Follows p (scope_of tops names) s e
  without_name names x t s e follows =
      follows_within p (scope_of tops names) (scope_of tops ((x, t) ∷ names)) s e
      (λ y is. holds_later x y (scope_of tops names) is) follows

  -- fun x -> body
  pub function_ruled :
      (n : ℕ) (at : Place) (x body : ℕ) → slice_get p.terms n ≡ Some (record { place = at; form = form.Function x body })
      → Rule body → IsRuled n (record { place = at; form = form.Function x body }) (Fun x (tree body))
  unfolding term_of
  function_ruled n at x body is rule_body sc names rest k s e d ending ground scope scoped =
      let here = scope_of tops names in
      let node : TermNode = record { place = at; form = form.Function x body } in
      let v = length s.types.nodes in
      let last = task.Lambda v in
      let new = task.Term body ∷ last ∷ [] in
      let u : Inference = left rest s in
      let fresh : Inference = (new_variable u).state in
      let noted : Inference = of_one_type x v fresh in
      let s1 : Inference = left (new ++ rest) noted in
      let b = entered l p f tops vs n node is rest new k s s1 e d ground.here refl refl in
      let both = both_hold (is_new sc x) (term_scoped (with_names (x ∷ []) sc) (tree body)) scoped in
      let u_here = kept_here s u b.before in
      let fresh_kept = variable_made l u u u_here in
      let fresh_here = kept_here u fresh fresh_kept in
      let v_is = variable_is l u u in
      let noted_kept = name_kept fresh fresh x (One v s.pattern) fresh_here v_is (omega arith) in
      let noted_here = kept_here fresh noted noted_kept in
      let s1_kept : Kept noted s1 = first_kept noted noted new noted_here (λ room. (tt, (v_is room, tt))) in
      let follows_1 =
      follows_on p here s u s1 (follows_given l p here s rest s.given b.before)
      (follows_on p here u fresh s1 (follows_leads p here u fresh fresh_kept (variable_leads l u u u_here p))
      (follows_on p here fresh noted s1
      (follows_noted p here fresh x (One v s.pattern) noted_kept (λ y held same. new_apart sc here x y both.0 (scope y) held same))
      (follows_given l p here noted (new ++ rest) s.given s1_kept))) in
      let s1_here = kept_here s s1 follows_1.kept in
      let q = between l p f tops vs rest b.steps (task.Term body ∷ []) (last ∷ []) s1 e b.others s1_here ending in
      let ground_0 = ground_later p f tops s s1 names q.start.room q.start.on ground follows_1 in
      let ground_1 = ground_with p f tops s1 names x v s.pattern (f v) ground_0 (noted_same x (One v s.pattern) s.names) refl in
      let one =
      rule_body (with_names (x ∷ []) sc) ((x, f v) ∷ names) (last ∷ rest) q.first_steps s1 q.middle q.first_part q.ending ground_1
      (scope_with sc tops names x (f v) scope) both.1 in
      let one_follows = without_name names x (f v) s1 q.middle one.follows in
      let two = lambda_done l p f here rest q.steps v one.value s.given q.middle e q.others q.here one.gives ending in
      record {
        value = two.0;
        gives = two.1.gives;
        there = two.1.there;
        follows = follows_on p here s s1 e follows_1 (follows_on p here s1 q.middle e one_follows two.1.follows);
        typed = λ agree. (f v, f one.value, two.2, one.typed (agree_at p f vs here q.middle e two.1.follows agree));
      }

  -- a type is taken, and a name that isn't in scope has it
  pub record Named (scope : List ℕ) (s e : Inference) (x v : ℕ) (gs : List ℕ) : Type 0 where
    pub gives : e.given ≡ gs
    pub follows : Follows p scope s e
    pub pattern : ℕ
    pub is : known e.names x ≡ Some (One v pattern)

  pub name_done :
      (scope : List ℕ) (rest : List Task) (k : ℕ) (x v : ℕ) (gs : List ℕ) (s e : Inference) → Does p rest k (task.Name x ∷ []) s e
      → Kept s s → s.given ≡ v ∷ gs → ((y : ℕ) → IsTrue (holds scope y) → y ≡ x → ⊥) → Named scope s e x v gs
  unfolding acted
  name_done scope rest k x v gs s e d kept given apart =
      let below : Inference = record s { tasks = rest; given = gs } in
      let after : Inference = of_one_type x v below in
      let step : acted (task.Name x) p (left rest s) ≡ after =
      ap (λ (t : Gives). of_one_type x t.found t.state) (taken_is (left rest s) v gs given) in
      let once = once_done l p rest k (task.Name x) s e d (ap (λ (t : Inference). t.tasks) step) kept in
      let under = ungiven l p s (left rest s) v gs given once.before in
      let noted_kept = name_kept below below x (One v s.pattern) (kept_here s below under.0) under.1 (omega arith) in
      subst (λ (t : Inference). Named scope s t x v gs) (sym step ∙ once.is)
      (record {
        gives = refl;
        follows =
            follows_on p scope s below after (follows_given l p scope s rest gs under.0)
            (follows_noted p scope below x (One v s.pattern) noted_kept apart);
        pattern = s.pattern;
        is = noted_same x (One v s.pattern) s.names;
      })

  -- let x = a in body
  pub let_ruled :
      (n : ℕ) (at : Place) (x a body : ℕ) → slice_get p.terms n ≡ Some (record { place = at; form = form.Let x a body })
      → Rule a → Rule body → IsRuled n (record { place = at; form = form.Let x a body }) (Let x (tree a) (tree body))
  unfolding term_of
  let_ruled n at x a body is rule_a rule_body sc names rest k s e d ending ground scope scoped =
      let here = scope_of tops names in
      let node : TermNode = record { place = at; form = form.Let x a body } in
      let new = task.Term a ∷ task.Name x ∷ task.Term body ∷ [] in
      let s1 : Inference = left (new ++ rest) s in
      let put = puts l p f tops vs n node is names rest new k s e d ending ground refl (λ room. (tt, (tt, (tt, tt)))) in
      let tree_a = tree a in
      let tree_body = tree body in
      let all = both_hold (is_new sc x && term_scoped sc tree_a) (term_scoped (with_names (x ∷ []) sc) tree_body) scoped in
      let both = both_hold (is_new sc x) (term_scoped sc tree_a) all.0 in
      let one =
      term_first l p f tops vs a rule_a sc names rest (task.Name x ∷ task.Term body ∷ []) put.steps s1 e put.others ending
      put.ground scope both.1 in
      let v = one.done.value in
      let q =
      between l p f tops vs rest one.steps (task.Name x ∷ []) (task.Term body ∷ []) one.middle e one.others one.here ending in
      let named =
      name_done here (task.Term body ∷ rest) q.first_steps x v s.given one.middle q.middle q.first_part one.here one.done.gives
      (λ y held same. new_apart sc here x y both.0 (scope y) held same) in
      let ground_1 = ground_later p f tops one.middle q.middle names q.ending.room q.ending.on one.ground named.follows in
      let ground_2 = ground_with p f tops q.middle names x v named.pattern (f v) ground_1 named.is refl in
      let two =
      rule_body (with_names (x ∷ []) sc) ((x, f v) ∷ names) rest q.steps q.middle e q.others ending ground_2
      (scope_with sc tops names x (f v) scope) all.1 in
      let back = follows_on p here one.middle q.middle e named.follows (without_name names x (f v) q.middle e two.follows) in
      record {
        value = two.value;
        gives = more_given e.given q.middle.given s.given two.value two.gives named.gives;
        there = two.there;
        follows = follows_on p here s s1 e put.follows (follows_on p here s1 one.middle e one.done.follows back);
        typed = λ agree. (f v, one.done.typed (agree_at p f vs here one.middle e back agree), two.typed agree);
      }
