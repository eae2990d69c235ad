-- The walk over groups of functions gives what the rules of groups say.
use Rattle.std.proofs.Common.{◌≡◌, ℕ, ◌<◌, List, [], ◌∷◌, ◌++◌, length, map, Option, Some, None, true, false, ◌||◌, not, ◌&&◌, refl, sym, ◌∙◌, ap, subst, append_assoc, flat_map, slice_get, ⊎_elim}
use Rattle.std.specs.Prelude.{IsTrue, option_map}
use Rattle.std.specs.List.{AllByRecursion, list_all}
use Rattle.std.proofs.lemmas.Bool.Decides.{eqb_tells}
use Rattle.fx_base.specs.declared.refusal.Place.{Place}
use Rattle.effect_meaning.specs.declared.core_nodes.Function.{Function}
use Rattle.effect_meaning.specs.declared.core_nodes.TermForm.TheVariants as form
use Rattle.effect_meaning.specs.Arena.{Parts, AllMet, AType, IsArena, counts, function_needs, if_any, terms_below}
use Rattle.effect_meaning.specs.ArenaTrees.{functions_tree, program, term_at, terms_of, type_at, types_of}
use Rattle.effect_meaning.specs.Scoped.{Scope, annotation_known, are_new, differ, function_names, functions_scoped, holds, is_new, term_scoped, with_names}
use Rattle.effect_meaning.specs.Terms.{Functions, LetRec, Written}
use Rattle.type_graph.specs.Graph.{applied, variable_added}
use Rattle.type_terms.specs.TypeTrees.{Ty, function}
use Rattle.type_terms.specs.WrittenTypes.{IfWritten}
use Rattle.type_terms.specs.Contexts.{Names}
use Rattle.type_terms.specs.Typing.{FunctionsHave, HasType}
use Rattle.ml_infer.specs.declared.inference.Inference.{Inference}
use Rattle.ml_infer.specs.declared.inference.NameType.{NameType}
use Rattle.ml_infer.specs.declared.inference.NameType.TheVariants.{One}
use Rattle.ml_infer.specs.declared.tasks.Task.{Task}
use Rattle.ml_infer.specs.declared.tasks.Task.TheVariants as task
use Rattle.ml_infer.specs.Inference.{Gives, equated, new_name, one_of_known, one_type}
use Rattle.ml_infer.specs.Known.{known, noted}
use Rattle.ml_infer.specs.Terms.{function_from, functions_first, group_function, new_names, term_of}
use Rattle.ml_infer.specs.Written.{annotated_if}
use Rattle.ml_infer.specs.Walk.{acted, acted_in_group, acted_on_data}
use Rattle.inference_laws.specs.Whole.{HasRoom, IfKnown, NameIsThere}
use Rattle.inference_laws.specs.Meanings.{ReadsAreMeant, VariablesAgree}
use Rattle.inference_laws.proofs.Pushing.{equated_tasks}
use Rattle.inference_laws.proofs.Each.{each_so}
use Rattle.inference_laws.proofs.Kept.{Kept, Roomy, Has, HasAll, has_later, kept_here, room_before}
use Rattle.inference_laws.proofs.GraphLaws.{GraphLaws}
use Rattle.inference_laws.proofs.Steps.{equated_kept, inner_made, known_name, type_is}
use Rattle.inference_laws.proofs.Written.{annotated_kept}
use Rattle.inference_laws.proofs.Noting.{noted_other, noted_same}
use Rattle.inference_laws.proofs.Leading.{equated_equal, equated_leads, type_is_read}
use Rattle.inference_laws.proofs.WrittenMeant.{annotated_leads, annotated_meant}
use Rattle.inference_laws.proofs.Runs.{left, Does}
use Rattle.inference_laws.proofs.Grounds.{Tops, standing, names_of, scope_of, HasScope, Ground, Ending, Follows, Asked, NameAgrees}
use Rattle.inference_laws.proofs.Booleans.{both_hold}
use Rattle.inference_laws.proofs.Following.{agree_at, follows_leads, follows_on, follows_within, ground_later, ground_with, holds_first, holds_later, new_apart, scope_with}
use Rattle.inference_laws.proofs.Steady.{taken_is}
use Rattle.inference_laws.proofs.Doing.{does_kept}
use Rattle.inference_laws.proofs.TasksDone.{once_done, task_left, ungiven}
use Rattle.inference_laws.proofs.TermsDone.{FormIsRuled, TermIsRuled, ending_before, step_of}
use Rattle.inference_laws.proofs.Opening.{follows_here, follows_same, ground_with_names, met_parts, names_first, none_held, opened, scope_with_names, unheld, split, within_names}

module _ (l : GraphLaws) (p : Parts) (arena : IsArena p) (f : ℕ → Ty) (tops : Tops) (vs : ℕ → Ty) where
  -- the type that is written for a function
  abbrev Type_of : Option ℕ → Option Written
  Type_of w = option_map (type_at (types_of p)) w

  -- a function of a group behind its body: it has the type of its name, and the one that is written
  record Ended (scope : List ℕ) (w : Option ℕ) (a b v : ℕ) (gs : List ℕ) (s e : Inference) : Type 0 where
    gives : e.given ≡ gs
    follows : Follows p scope s e
    equal : f v ≡ function (f a) (f b)
    written : VariablesAgree f vs e → IfWritten (program p).types vs (Type_of w) (function (f a) (f b))

  module _ (scope : List ℕ) (g : Function) (a b v q : ℕ) (gs : List ℕ) where
    -- its step
    end_step :
        (rest : List Task) (s : Inference) → s.given ≡ b ∷ gs
        → (w : Inference) → annotated_if p g.place (length s.types.nodes) g.annotation
        (record s { tasks = rest; given = gs; types = applied 15 (a ∷ b ∷ []) false s.types }) ≡ w
        → known w.names g.name ≡ Some (One v q)
        → acted (task.EndFunction (group_function g) a) p (left rest s) ≡ equated g.place (length s.types.nodes) v w
    unfolding acted acted_on_data acted_in_group
    end_step rest s given w is found =
        ap (λ (x : Gives). let t = function_from a x in let u = one_type g.name
        (annotated_if p g.place t.found g.annotation t.state) in equated g.place t.found u.found u.state)
        (taken_is (left rest s) b gs given)
        ∙ ap (λ (x : Inference). let u = one_type g.name x in equated g.place (length s.types.nodes) u.found u.state) is
        ∙ ap (λ (o : Option NameType). let u = one_of_known o g.name w in equated g.place (length s.types.nodes) u.found u.state)
        found

    end_done :
        (rest : List Task) (k : ℕ) (s e : Inference) → Does p rest k (task.EndFunction (group_function g) a ∷ []) s e → Kept s s
        → (HasRoom s.types → ReadsAreMeant p s) → IfKnown (λ n. n < length p.types) g.annotation → s.given ≡ b ∷ gs
        → known s.names g.name ≡ Some (One v q) → Ending f e → Ended scope g.annotation a b v gs s e
    end_done rest k s e d kept meant low given found ending =
        let at = g.place in
        let n = length s.types.nodes in
        let under : Inference = record s { tasks = rest; given = gs } in
        let h = applied 15 (a ∷ b ∷ []) false s.types in
        let u : Inference = record s { tasks = rest; given = gs; types = h } in
        let w = annotated_if p at n g.annotation u in
        let both = task_left l p rest k (task.EndFunction (group_function g) a) s e d kept in
        let has = ungiven l p s (left rest s) b gs given both.0 in
        let there : HasAll under (a ∷ b ∷ []) = λ room. (both.1 room, (has.1 room, tt)) in
        let u_kept = inner_made l s under 15 (a ∷ b ∷ []) has.0 there in
        let under_here = inner_made l under under 15 (a ∷ b ∷ []) (kept_here s under has.0) there in
        let n_is = type_is l s under 15 (a ∷ b ∷ []) false in
        let w_kept = annotated_kept l p at s u n g.annotation u_kept n_is in
        let w_here = annotated_kept l p at u u n g.annotation (kept_here s u u_kept) n_is in
        let w_leads = annotated_leads l p arena s u u_kept at n n_is g.annotation in
        let w_found : known w.names g.name ≡ Some (One v q) = ap (λ (xs : List (Option NameType)). known xs g.name)
        w_leads.rest.same_names ∙ found in
        let has_n = has_later u w n w_here n_is in
        let name_there : Roomy w (λ types. IfKnown (NameIsThere types) (Some (One v q))) = λ room.
        subst (IfKnown (NameIsThere (length w.types.nodes))) w_found (known_name l s w w_kept g.name room) in
        let has_v : Has w v = name_there in
        let x = equated at n v w in
        let step = end_step rest s given w refl w_found in
        let pushed = ap (λ (y : Inference). y.tasks) step ∙ equated_tasks at n v w ∙ w_leads.rest.same_tasks in
        let once = once_done l p rest k (task.EndFunction (group_function g) a) s e d pushed kept in
        let path : x ≡ e = sym step ∙ once.is in
        let end : Ending f x = subst (Ending f) (sym path) ending in
        let x_leads = equated_leads l s w w_kept at n v p has_n has_v in
        let x_here = equated_kept l w w at n v (kept_here s w w_kept) has_n has_v in
        let w_room = room_before w x x_here end.room in
        let w_on = x_here.ended end.on in
        let w_reads = x_here.reads end.room end.on f end.reads in
        let u_room = room_before u w w_here w_room in
        let u_reads = w_here.reads w_room w_on f w_reads in
        let function_is = type_is_read l s under has.0 15 (a ∷ b ∷ []) false f (room_before under u under_here u_room) u_reads in
        let equal = equated_equal l s w w_kept at n v has_n has_v end.room end.on f end.reads in
        let u_follows = follows_same l p scope s u u_kept refl refl refl (λ y is. refl) in
        let w_follows = follows_leads p scope u w w_here w_leads in
        let x_follows = follows_leads p scope w x x_here x_leads in
        let u_meant = u_follows.meant u_room (w_here.ended w_on) (meant (room_before s u u_kept u_room)) in
        subst (Ended scope g.annotation a b v gs s) path
        (record {
          gives = x_leads.rest.same_given ∙ w_leads.rest.same_given;
          follows = follows_on p scope s u x u_follows (follows_on p scope u w x w_follows x_follows);
          equal = sym equal ∙ function_is;
          written =
              λ agree.
              subst (IfWritten (program p).types vs (Type_of g.annotation)) function_is
              (annotated_meant l p arena s u u_kept at n n_is g.annotation low w_room w_on u_meant f vs w_reads
              (agree_at p f vs scope w x x_follows agree));
        })

  -- what is shown of a function of a group: its body has the type that it gives, and its written type is there
  abbrev pub FunctionIsRuled : Function → Type 0
  FunctionIsRuled g = TermIsRuled p f tops vs g.body × IfKnown (λ n. n < length p.types) g.annotation

  -- so it is, if all terms below that of the group are shown
  pub functions_ruled :
      (n : ℕ) → ((m : ℕ) → m < n → TermIsRuled p f tops vs m) → (fs : List Function)
      → AllMet (terms_below (counts p) n) (flat_map function_needs fs) → AllByRecursion FunctionIsRuled fs
  functions_ruled n terms [] met = tt
  functions_ruled n terms (g ∷ fs) met =
      let parts = met_parts (terms_below (counts p) n) (function_needs g) (flat_map function_needs fs) met in
      ((terms g.body parts.0.0, type_so g.annotation parts.0.1), functions_ruled n terms fs parts.1)
    where
      type_so : (w : Option ℕ) → AllMet (terms_below (counts p) n) (if_any AType w) → IfKnown (λ m. m < length p.types) w
      type_so None met = tt
      type_so (Some w) met = met.0

  -- the name of a function has one type, and is in scope
  abbrev NameIsIn : List ℕ → Inference → (ℕ × Ty) → Type 0
  NameIsIn scope s n = NameAgrees f s n × IsTrue (holds scope n.0)

  -- a function is done, whose name has type t
  record FunctionDone (names : Names) (g : Function) (t : Ty) (s e : Inference) : Type 0 where
    asked : Asked p tops names s e
    typed :
        VariablesAgree f vs e
        → (a : Ty) × (b : Ty) × (t ≡ function a b) × IfWritten (program p).types vs (Type_of g.annotation) (function a b)
        × HasType (standing p tops ((g.parameter, a) ∷ names) vs) (term_at (terms_of p) g.body) b

  function_step :
      (g : Function) (rest : List Task) (s : Inference)
      → acted (task.Function (group_function g)) p (left rest s)
      ≡ record s {
        tasks = task.Term g.body ∷ task.EndFunction (group_function g) (length s.types.nodes) ∷ rest;
        types = variable_added s.types;
        names = noted g.parameter (One (length s.types.nodes) s.pattern) s.names;
      }
  unfolding acted acted_on_data acted_in_group
  function_step g rest s = refl

  function_done :
      (g : Function) → FunctionIsRuled g → (sc : Scope) (names : Names) (n : ℕ × Ty) (rest : List Task) (k : ℕ) (s e : Inference)
      → Does p rest k (task.Function (group_function g) ∷ []) s e → Ending f e → Ground p f tops s names → HasScope sc tops names
      → NameIsIn (scope_of tops names) s n → n.0 ≡ g.name → IsTrue (is_new sc g.parameter)
      → IsTrue (term_scoped (with_names (g.parameter ∷ []) sc) (term_at (terms_of p) g.body)) → FunctionDone names g n.1 s e
  function_done g rules sc names n rest k s e d ending ground scope named name_is new scoped =
      let here = scope_of tops names in
      let x = g.parameter in
      let v = length s.types.nodes in
      let last = task.EndFunction (group_function g) v ∷ [] in
      let s1 : Inference = record s {
        tasks = task.Term g.body ∷ last ++ rest;
        types = variable_added s.types;
        names = noted x (One v s.pattern) s.names;
      } in
      let o = opened l p rest (task.Term g.body ∷ last) k (task.Function (group_function g)) s s1 e d ground.here
      (function_step g rest s) refl in
      let s1_here = kept_here s s1 o.kept in
      let first =
      follows_same l p here s s1 o.kept refl refl refl
      (λ y is. noted_other x y (One v s.pattern) s.names (new_apart sc here x y new (scope y) is)) in
      let q = split l p f rest o.steps (task.Term g.body ∷ []) last s1 e o.others s1_here ending in
      let m = q.middle in
      let ending_1 = ending_before l p f tops vs s1 m q.before q.ending in
      let ground_1 = ground_later p f tops s s1 names ending_1.room ending_1.on ground first in
      let inner : Names = (x, f v) ∷ names in
      let ground_x = ground_with p f tops s1 names x v s.pattern (f v) ground_1 (noted_same x (One v s.pattern) s.names) refl in
      let one = rules.0 (with_names (x ∷ []) sc) inner (last ++ rest) q.first_steps s1 m q.first_part q.ending ground_x
      (scope_with sc tops names x (f v) scope) scoped in
      let one_follows = follows_within p here (scope_of tops inner) s1 m (λ y is. holds_later x y here is) one.follows in
      let found : known m.names g.name ≡ Some (One named.0.0 named.0.1) =
      subst (λ y. known m.names y ≡ Some (One named.0.0 named.0.1)) name_is
      (one_follows.same n.0 named.1 ∙ first.same n.0 named.1 ∙ named.0.2) in
      let meant_m = λ (room : HasRoom m.types). one.follows.meant room q.ending.on
      (ground_1.meant (room_before s1 m q.before room)) in
      let two = end_done here g v one.value named.0.0 named.0.1 s.given rest q.other_steps m e q.other_part q.here meant_m rules.1
      one.gives found ending in
      record {
        asked = record {
          gives = two.gives;
          follows = follows_on p here s s1 e first (follows_on p here s1 m e one_follows two.follows);
        };
        typed =
            λ agree. (
              f v,
              f one.value,
              sym named.0.3
                  ∙ two.equal,
              two.written agree,
              one.typed (agree_at p f vs here m e two.follows agree),
            );
      }

  -- names stand for the functions of a group
  abbrev pub AreNamed : List Function → Names → Type 0
  AreNamed [] [] = Unit {0}
  AreNamed [] (n ∷ ns) = ⊥
  AreNamed (g ∷ fs) [] = ⊥
  AreNamed (g ∷ fs) (n ∷ ns) = (n.0 ≡ g.name) × AreNamed fs ns

  abbrev Tree : List Function → Functions
  Tree fs = functions_tree (types_of p) (terms_of p) fs

  -- the functions of a group are done, whose names have these types
  pub record GroupDone (names : Names) (fs : List Function) (ns : Names) (s e : Inference) : Type 0 where
    pub asked : Asked p tops names s e
    pub typed : VariablesAgree f vs e → FunctionsHave (standing p tops names vs) (functions_tree (types_of p) (terms_of p) fs) ns

  names_stay :
      (scope : List ℕ) (s e : Inference) → Follows p scope s e → (ns : Names) → AllByRecursion (NameIsIn scope s) ns
      → AllByRecursion (NameIsIn scope e) ns
  names_stay scope s e follows ns all =
      each_so (NameIsIn scope s) (NameIsIn scope e)
      (λ n h. ((h.0.0, h.0.1, follows.same n.0 h.1 ∙ h.0.2, h.0.3), h.1)) ns all

  functions_done :
      (fs : List Function) → AllByRecursion FunctionIsRuled fs
      → (sc : Scope) (names ns : Names) (rest : List Task) (k : ℕ) (s e : Inference)
      → Does p rest k (map (λ g. task.Function (group_function g)) fs) s e → Ending f e → Ground p f tops s names
      → HasScope sc tops names
      → AreNamed fs ns → AllByRecursion (NameIsIn (scope_of tops names) s) ns → IsTrue (functions_scoped sc (Tree fs))
      → GroupDone names fs ns s e
  functions_done [] rules sc names [] rest k s e d ending ground scope named all scoped =
      record {
        asked =
            subst (Asked p tops names s) d.1
            (record { gives = refl; follows = follows_here l p (scope_of tops names) s ground.here });
        typed = λ agree. refl;
      }
  functions_done [] rules sc names (n ∷ ns) rest k s e d ending ground scope named all scoped = absurd named
  functions_done (g ∷ fs) rules sc names [] rest k s e d ending ground scope named all scoped = absurd named
  functions_done (g ∷ fs) rules sc names (n ∷ ns) rest k s e d ending ground scope named all scoped =
      let here = scope_of tops names in
      let written = annotation_known sc (Type_of g.annotation) in
      let body = term_scoped (with_names (g.parameter ∷ []) sc) (term_at (terms_of p) g.body) in
      let parts = both_hold (written && is_new sc g.parameter && body) (functions_scoped sc (Tree fs)) scoped in
      let inside = both_hold (written && is_new sc g.parameter) body parts.0 in
      let before = both_hold written (is_new sc g.parameter) inside.0 in
      let others = map (λ (h : Function). task.Function (group_function h)) fs in
      let q = split l p f rest k (task.Function (group_function g) ∷ []) others s e d ground.here ending in
      let m = q.middle in
      let one = function_done g rules.0 sc names n (others ++ rest) q.first_steps s m q.first_part q.ending ground scope all.0
      named.0 before.1 inside.1 in
      let ground_m = ground_later p f tops s m names q.ending.room q.ending.on ground one.asked.follows in
      let two = functions_done fs rules.1 sc names ns rest q.other_steps m e q.other_part ending ground_m scope named.1
      (names_stay here s m one.asked.follows ns all.1) parts.1 in
      record {
        asked = record {
          gives = two.asked.gives ∙ one.asked.gives;
          follows = follows_on p here s m e one.asked.follows two.asked.follows;
        };
        typed =
            λ agree.
            let first = one.typed (agree_at p f vs here m e two.asked.follows agree) in
            let head : n ≡ (g.name, function first.0 first.1) =
            ap (λ y. (y, n.1)) named.0 ∙ ap (λ (y : Ty). (g.name, y)) first.2 in
            (first.0, first.1, ns, ap (λ (y : ℕ × Ty). y ∷ ns) head, first.3, first.4, two.typed agree);
      }

  -- the names of a group, with the types that they are given in this state
  abbrev pub group_names : List Function → Inference → Names
  group_names [] s = []
  group_names (g ∷ fs) s = (g.name, f (length s.types.nodes)) ∷ group_names fs (new_name g.name s).state

  -- what new names of a group leave as it was
  record NamesNew (xs : List ℕ) (s t : Inference) : Type 0 where
    tasks : t.tasks ≡ s.tasks
    given : t.given ≡ s.given
    item : t.item ≡ s.item
    variables : t.variables ≡ s.variables
    read : t.read ≡ s.read
    others : (x : ℕ) → holds xs x ≡ false → known t.names x ≡ known s.names x

  none_of : (x y : ℕ) (xs : List ℕ) → holds (y ∷ xs) x ≡ false → (x ≡ y → ⊥) × (holds xs x ≡ false)
  none_of x y xs h =
      ⊎_elim (λ k. absurd (clash (ap (λ b. b || holds xs x) (sym k.0) ∙ h)))
      (λ k. (k.1, ap (λ b. b || holds xs x) (sym k.0) ∙ h)) (eqb_tells x y)
    where
      clash : true ≡ false → ⊥
      clash h = absurd (cc)

  new_names_new : (fs : List Function) (s : Inference) → NamesNew (function_names (Tree fs)) s (new_names fs s)
  new_names_new [] s = record { tasks = refl; given = refl; item = refl; variables = refl; read = refl; others = λ x h. refl }
  new_names_new (g ∷ fs) s =
      let t = (new_name g.name s).state in
      let more = new_names_new fs t in
      record {
        tasks = more.tasks;
        given = more.given;
        item = more.item;
        variables = more.variables;
        read = more.read;
        others =
            λ x h.
            let apart = none_of x g.name (function_names (Tree fs)) h in
            more.others x apart.1 ∙ noted_other g.name x (One (length s.types.nodes) s.pattern) s.names apart.0;
      }

  -- each name has its type, if they differ
  new_names_agree :
      (fs : List Function) (s : Inference) → IsTrue (differ (function_names (Tree fs)))
      → AllByRecursion (NameAgrees f (new_names fs s)) (group_names fs s)
  new_names_agree [] s h = tt
  new_names_agree (g ∷ fs) s h =
      let both = both_hold (not (holds (function_names (Tree fs)) g.name)) (differ (function_names (Tree fs))) h in
      let t = (new_name g.name s).state in
      let v = length s.types.nodes in (
        (
          v,
          s.pattern,
          (new_names_new fs t).others g.name (unheld (holds (function_names (Tree fs)) g.name) both.0)
              ∙ noted_same g.name (One v s.pattern) s.names,
          refl,
        ),
        new_names_agree fs t both.1,
      )

  names_are : (fs : List Function) (s : Inference) → names_of (group_names fs s) ≡ function_names (Tree fs)
  names_are [] s = refl
  names_are (g ∷ fs) s = ap (λ (xs : List ℕ). g.name ∷ xs) (names_are fs (new_name g.name s).state)

  are_named : (fs : List Function) (s : Inference) → AreNamed fs (group_names fs s)
  are_named [] s = tt
  are_named (g ∷ fs) s = (refl, are_named fs (new_name g.name s).state)

  -- names that stand first in a scope are in it
  each_in : (scope : List ℕ) (s : Inference) (ns : Names) → ((x : ℕ) → IsTrue (holds (names_of ns) x) → IsTrue (holds scope x))
      → AllByRecursion (NameAgrees f s) ns → AllByRecursion (NameIsIn scope s) ns
  each_in scope s [] among all = tt
  each_in scope s (n ∷ ns) among all = (
    (all.0, among n.0 (holds_first n.0 (names_of ns))),
    each_in scope s ns (λ x is. among x (holds_later n.0 x (names_of ns) is))
        all.1,
  )

  -- a group begins: its names have types, and the functions are put first
  pub record GroupBegun (names ns : Names) (sc : Scope) (fs : List Function) (s s1 : Inference) : Type 0 where
    pub gives : s1.given ≡ s.given
    pub follows : Follows p (scope_of tops names) s s1
    pub ground : Ground p f tops s1 (ns ++ names)
    pub scope : HasScope (with_names (function_names (functions_tree (types_of p) (terms_of p) fs)) sc) tops (ns ++ names)
    pub named : AreNamed fs ns
    pub all : AllByRecursion (λ n. NameAgrees f s1 n × IsTrue (holds (scope_of tops (ns ++ names)) n.0)) ns

  pub group_begun :
      (fs : List Function) (sc : Scope) (names : Names) (ts : List Task) (s : Inference) → Ground p f tops s names
      → HasScope sc tops names
      → IsTrue (are_new sc (function_names (functions_tree (types_of p) (terms_of p) fs)))
      → Kept s (functions_first fs (left ts s)) → HasRoom (functions_first fs (left ts s)).types
      → (functions_first fs (left ts s)).end ≡ None
      → GroupBegun names (group_names fs (left ts s)) sc fs s (functions_first fs (left ts s))
  group_begun fs sc names ts s ground scope new kept room on =
      let here = scope_of tops names in
      let xs = function_names (Tree fs) in
      let s1 = functions_first fs (left ts s) in
      let ns = group_names fs (left ts s) in
      let made = new_names_new fs (left ts s) in
      let both = both_hold (differ xs) (list_all (is_new sc) xs) new in
      let keys : (x : ℕ) → holds (names_of ns) x ≡ holds xs x = λ x. ap (λ (ys : List ℕ). holds ys x) (names_are fs (left ts s)) in
      let follows =
      follows_same l p here s s1 kept made.item made.variables made.read
      (λ x is. made.others x (none_held sc xs x both.1 (subst IsTrue (sym (scope x)) is))) in
      let agree : AllByRecursion (NameAgrees f s1) ns = new_names_agree fs (left ts s) both.0 in
      record {
        gives = made.given;
        follows = follows;
        ground = ground_with_names p f tops s1 names ns (ground_later p f tops s s1 names room on ground follows) agree;
        scope = scope_with_names sc tops names ns xs keys scope;
        named = are_named fs (left ts s);
        all = each_in (scope_of tops (ns ++ names)) s1 ns (names_first tops ns names) agree;
      }

  -- a group by itself: behind its names the functions are done
  pub record GroupIsDone (names ns : Names) (fs : List Function) (s s1 e : Inference) : Type 0 where
    pub gives : e.given ≡ s.given
    pub begin : Follows p (scope_of tops names) s s1
    pub follows : Follows p (scope_of tops (ns ++ names)) s1 e
    pub named : AreNamed fs ns
    pub agree : AllByRecursion (NameAgrees f e) ns
    pub typed : VariablesAgree f vs e
        → FunctionsHave (standing p tops (ns ++ names) vs) (functions_tree (types_of p) (terms_of p) fs) ns

  pub group_done :
      (fs : List Function) → AllByRecursion FunctionIsRuled fs
      → (sc : Scope) (names : Names) (rest ts : List Task) (k : ℕ) (s e : Inference)
      → Does p rest k (map (λ g. task.Function (group_function g)) fs) (functions_first fs (left ts s)) e
      → Kept s (functions_first fs (left ts s)) → Ending f e → Ground p f tops s names → HasScope sc tops names
      → IsTrue (are_new sc (function_names (functions_tree (types_of p) (terms_of p) fs)))
      → IsTrue (functions_scoped (with_names (function_names (functions_tree (types_of p) (terms_of p) fs)) sc)
      (functions_tree (types_of p) (terms_of p) fs))
      → GroupIsDone names (group_names fs (left ts s)) fs s (functions_first fs (left ts s)) e
  group_done fs rules sc names rest ts k s e d kept ending ground scope new scoped =
      let tasks = map (λ (g : Function). task.Function (group_function g)) fs in
      let s1 = functions_first fs (left ts s) in
      let ns = group_names fs (left ts s) in
      let all_scope = scope_of tops (ns ++ names) in
      let after = does_kept l p rest k tasks s1 s1 e d (kept_here s s1 kept) in
      let ending_1 = ending_before l p f tops vs s1 e after ending in
      let one = group_begun fs sc names ts s ground scope new kept ending_1.room ending_1.on in
      let two = functions_done fs rules (with_names (function_names (Tree fs)) sc) (ns ++ names) ns rest k s1 e d ending one.ground
      one.scope one.named
      one.all scoped in
      record {
        gives = two.asked.gives ∙ one.gives;
        begin = one.follows;
        follows = two.asked.follows;
        named = one.named;
        agree =
            each_so (NameIsIn all_scope e) (NameAgrees f e) (λ n h. h.0) ns
            (names_stay all_scope s1 e two.asked.follows ns one.all);
        typed = two.typed;
      }

  -- let rec with functions
  letrec_step :
      (n : ℕ) (at : Place) (fs : List Function) (body : ℕ) (rest : List Task) (s : Inference)
      → slice_get p.terms n ≡ Some (record { place = at; form = form.LetRec fs body })
      → acted (task.Term n) p (left rest s) ≡ functions_first fs (left (task.Term body ∷ rest) s)
  unfolding term_of
  letrec_step n at fs body rest s is = step_of l p f tops vs n (record { place = at; form = form.LetRec fs body }) (left rest s) is

  pub let_rec_ruled :
      (n : ℕ) (at : Place) (fs : List Function) (body : ℕ)
      → slice_get p.terms n ≡ Some (record { place = at; form = form.LetRec fs body })
      → AllByRecursion FunctionIsRuled fs → TermIsRuled p f tops vs body
      → FormIsRuled l p f tops vs n (record { place = at; form = form.LetRec fs body })
      (LetRec (functions_tree (types_of p) (terms_of p) fs) (term_at (terms_of p) body))
  let_rec_ruled n at fs body is rules rule sc names rest k s e d ending ground scope scoped =
      let here = scope_of tops names in
      let tasks = map (λ (g : Function). task.Function (group_function g)) fs in
      let last = task.Term body ∷ [] in
      let start = left (last ++ rest) s in
      let s1 = functions_first fs start in
      let ns = group_names fs start in
      let all_scope = scope_of tops (ns ++ names) in
      let made = new_names_new fs start in
      let inner = with_names (function_names (Tree fs)) sc in
      let pushed : s1.tasks ≡ (tasks ++ last) ++ rest = ap (λ (xs : List Task). tasks ++ xs) made.tasks
      ∙ sym (append_assoc tasks last rest) in
      let o = opened l p rest (tasks ++ last) k (task.Term n) s s1 e d ground.here (letrec_step n at fs body rest s is) pushed in
      let q = split l p f rest o.steps tasks last s1 e o.others (kept_here s s1 o.kept) ending in
      let m = q.middle in
      let ending_1 = ending_before l p f tops vs s1 m q.before q.ending in
      let parts = both_hold (are_new sc (function_names (Tree fs)) && functions_scoped inner (Tree fs))
      (term_scoped inner (term_at (terms_of p) body)) scoped in
      let first = both_hold (are_new sc (function_names (Tree fs))) (functions_scoped inner (Tree fs)) parts.0 in
      let begun = group_begun fs sc names (last ++ rest) s ground scope first.0 o.kept ending_1.room ending_1.on in
      let one = functions_done fs rules inner (ns ++ names) ns (last ++ rest) q.first_steps s1 m q.first_part q.ending begun.ground
      begun.scope begun.named
      begun.all first.1 in
      let ground_m = ground_later p f tops s1 m (ns ++ names) q.ending.room q.ending.on begun.ground one.asked.follows in
      let two = rule inner (ns ++ names) rest q.other_steps m e q.other_part ending ground_m begun.scope parts.1 in
      let behind = follows_within p here all_scope s1 e (within_names tops ns names)
      (follows_on p all_scope s1 m e one.asked.follows two.follows) in
      record {
        value = two.value;
        gives = two.gives ∙ ap (λ (gs : List ℕ). two.value ∷ gs) (one.asked.gives ∙ begun.gives);
        there = two.there;
        follows = follows_on p here s s1 e begun.follows behind;
        typed = λ agree. (ns, one.typed (agree_at p f vs all_scope m e two.follows agree), two.typed agree);
      }
