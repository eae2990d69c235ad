-- What simple tasks do: they take types that were given, and give others.
use Rattle.std.proofs.Common.{◌≡◌, ℕ, zero, suc, ◌+◌, ◌≤◌, Bool, true, false, ◌==◌, if◌then◌else◌, nat_le, slice_get, take, drop, length-take, ⊎_elim, List, [], ◌∷◌, length, Option, Some, None, refl, sym, ◌∙◌, ap, subst, arith}
use Rattle.std.specs.Prelude.{IsTrue}
use Rattle.std.specs.List.{AllByRecursion}
use Rattle.std.proofs.lemmas.Bool.Decides.{eqb_tells}
use Rattle.fx_base.specs.declared.refusal.Place.{Place}
use Rattle.effect_meaning.specs.Arena.{Parts}
use Rattle.type_terms.specs.TypeTrees.{Ty, Constructed, function}
use Rattle.type_graph.specs.declared.form.Form.{Form}
use Rattle.type_graph.specs.declared.form.Form.TheVariants.{Variable, Link, Applied}
use Rattle.type_graph.specs.Graph.{Graph, applied, argument_of, form_of, is_of, part_of, root}
use Rattle.type_readings.specs.Readings.{IsOfForm, Reads, trees_of}
use Rattle.type_readings.specs.WellFormed.{AreNumbers, IsWellFormed}
use Rattle.ml_infer.specs.declared.inference.Inference.{Inference}
use Rattle.ml_infer.specs.declared.tasks.Task.{Task}
use Rattle.ml_infer.specs.declared.tasks.Task.TheVariants as task
use Rattle.ml_infer.specs.Inference.{Gives, gives, equated, given_back, new_variable, taken}
use Rattle.ml_infer.specs.Terms.{applied_known, applied_unknown, function_from}
use Rattle.ml_infer.specs.Walk.{acted, acted_on_data}
use Rattle.inference_laws.specs.Whole.{HasRoom, TaskIsThere}
use Rattle.inference_laws.proofs.Kept.{Kept, Roomy, Has, HasAll, has_later, kept_here, room_before}
use Rattle.inference_laws.proofs.Fields.{left_kept, given_kept, ungiven_kept}
use Rattle.inference_laws.proofs.GraphLaws.{GraphLaws}
use Rattle.inference_laws.proofs.Leading.{equated_equal, equated_leads, equated_same, type_is_read, type_leads, variable_leads}
use Rattle.inference_laws.proofs.Steps.{equated_kept, inner_made, type_is, variable_is, variable_made}
use Rattle.inference_laws.proofs.Constructors.{HasIf, argument_there}
use Rattle.inference_laws.proofs.Steady.{taken_is}
use Rattle.inference_laws.proofs.Pushing.{applied_tasks}
use Rattle.inference_laws.proofs.Runs.{left, Does, at_once}
use Rattle.inference_laws.proofs.Grounds.{Ending, Follows}
use Rattle.inference_laws.proofs.Booleans.{both_hold}
use Rattle.inference_laws.proofs.Following.{follows_leads, follows_on}

module _ (l : GraphLaws) (p : Parts) where
  -- a task that is to be done is there, and so are those behind it
  tasks_split :
      (s0 s : Inference) (t : Task) (ts : List Task) → s.tasks ≡ t ∷ ts → Kept s0 s
      → Roomy s (λ types. TaskIsThere types t) × Kept s0 (left ts s)
  tasks_split s0 s t ts e kept =
      let there : Roomy s (λ types. AllByRecursion (TaskIsThere types) (t ∷ ts)) = λ room.
      subst (AllByRecursion (TaskIsThere (length s.types.nodes))) e (kept.whole room).numbers.tasks_there in
      (λ room. (there room).0, left_kept s0 s ts kept (λ room. (there room).1))

  -- a task that puts nothing first: the state behind it
  pub record OnceDone (rest : List Task) (t : Task) (s e : Inference) : Type 0 where
    pub goes_on : s.end ≡ None
    pub there : Roomy s (λ types. TaskIsThere types t)
    pub before : Kept s (left rest s)
    pub is : acted t p (left rest s) ≡ e

  pub once_done :
      (rest : List Task) (k : ℕ) (t : Task) (s e : Inference) → Does p rest k (t ∷ []) s e → (acted t p (left rest s)).tasks ≡ rest
      → Kept s s → OnceDone rest t s e
  once_done rest zero t s e d pushed kept = absurd d
  once_done rest (suc k) t s e d pushed kept =
      let both = tasks_split s s t rest d.1 kept in
      record { goes_on = d.0; there = both.0; before = both.1; is = at_once p rest (suc k) t s e d pushed }

  -- the state without the task at hand
  pub task_left :
      (rest : List Task) (k : ℕ) (t : Task) (s e : Inference) → Does p rest k (t ∷ []) s e → Kept s s
      → Kept s (left rest s) × Roomy s (λ types. TaskIsThere types t)
  task_left rest zero t s e d kept = absurd d
  task_left rest (suc k) t s e d kept = let both = tasks_split s s t rest d.1 kept in (both.1, both.0)

  -- with other tasks and other given types a state follows
  pub follows_given :
      (scope : List ℕ) (s : Inference) (ts : List Task) (gs : List ℕ) → Kept s (record s { tasks = ts; given = gs })
      → Follows p scope s (record s { tasks = ts; given = gs })
  follows_given scope s ts gs kept = record {
    kept = kept;
    item = refl;
    stay = λ v k is item. is;
    meant = λ room on meant. meant;
    same = λ x is. refl;
  }

  -- a state without the type that was given last
  pub ungiven :
      (s0 s : Inference) (v : ℕ) (gs : List ℕ) → s.given ≡ v ∷ gs → Kept s0 s → Kept s0 (record s { given = gs }) × Has s v
  ungiven s0 s v gs e kept =
      let there : Roomy s (λ types. AreNumbers types (v ∷ gs)) = λ room.
      subst (AreNumbers (length s.types.nodes)) e (kept.whole room).numbers.given_there in
      (ungiven_kept s0 s gs kept (λ room. (there room).1), λ room. (there room).0)

  -- what two types being equal leaves
  pub record Equal (f : ℕ → Ty) (scope : List ℕ) (s e : Inference) (gs : List ℕ) (a b : ℕ) : Type 0 where
    pub gives : e.given ≡ gs
    pub follows : Follows p scope s e
    pub equal : f a ≡ f b

  -- two types are made equal in a state with other tasks and given types
  pub made_equal :
      (f : ℕ → Ty) (scope : List ℕ) (s e : Inference) (ts : List Task) (gs : List ℕ) (at : Place) (a b : ℕ)
      → Kept s (record s { tasks = ts; given = gs }) → Has s a → Has s b
      → equated at a b (record s { tasks = ts; given = gs }) ≡ e → Ending f e
      → Equal f scope s e gs a b
  made_equal f scope s e ts gs at a b kept has_a has_b is ending =
      let t : Inference = record s { tasks = ts; given = gs } in
      let leads = equated_leads l s t kept at a b p has_a has_b in
      let all = equated_kept l s t at a b kept has_a has_b in
      let here = equated_kept l t t at a b (kept_here s t kept) has_a has_b in
      let there : HasRoom (equated at a b t).types × (((equated at a b t).end ≡ None) × Reads f (equated at a b t).types) =
      subst (λ (x : Inference). HasRoom x.types × ((x.end ≡ None) × Reads f x.types)) (sym is)
      (ending.room, (ending.on, ending.reads)) in
      record {
        gives = ap (λ (x : Inference). x.given) (sym is) ∙ leads.rest.same_given;
        follows =
            subst (Follows p scope s) is
            (follows_on p scope s t (equated at a b t) (follows_given scope s ts gs kept)
            (follows_leads p scope t (equated at a b t) here leads));
        equal = equated_equal l s t kept at a b has_a has_b there.0 there.1.0 f there.1.1;
      }

  -- a task makes two types equal, in a state with other given types
  equal_done :
      (f : ℕ → Ty) (scope : List ℕ) (rest : List Task) (k : ℕ) (t : Task) (gs : List ℕ) (at : Place) (a b : ℕ) (s e : Inference)
      → Does p rest k (t ∷ []) s e → Kept s s → Kept s (record s { tasks = rest; given = gs }) → Has s a → Has s b
      → acted t p (left rest s) ≡ equated at a b (record s { tasks = rest; given = gs }) → Ending f e → Equal f scope s e gs a b
  equal_done f scope rest k t gs at a b s e d kept under has_a has_b step ending =
      let u : Inference = record s { tasks = rest; given = gs } in
      let pushed = ap (λ (x : Inference). x.tasks) step ∙ (equated_same l s u under at a b).rest.same_tasks in
      let once = once_done rest k t s e d pushed kept in
      made_equal f scope s e rest gs at a b under has_a has_b (sym step ∙ once.is) ending

  -- a type is taken, which is this one
  pub is_done :
      (f : ℕ → Ty) (scope : List ℕ) (rest : List Task) (k : ℕ) (at : Place) (t v : ℕ) (gs : List ℕ) (s e : Inference)
      → Does p rest k (task.Is at t ∷ []) s e → Kept s s → s.given ≡ v ∷ gs → Ending f e → Equal f scope s e gs v t
  unfolding acted
  is_done f scope rest k at t v gs s e d kept given ending =
      let step : acted (task.Is at t) p (left rest s) ≡ equated at v t (record s { tasks = rest; given = gs }) =
      ap (λ (u : Gives). equated at u.found t u.state) (taken_is (left rest s) v gs given) in
      let has = ungiven s s v gs given kept in
      let both = task_left rest k (task.Is at t) s e d kept in
      let under = ungiven s (left rest s) v gs given both.0 in
      equal_done f scope rest k (task.Is at t) gs at v t s e d kept under.0 has.1 both.1 step ending

  -- two types are taken, which are equal, and one of them is given
  pub agree_done :
      (f : ℕ → Ty) (scope : List ℕ) (rest : List Task) (k : ℕ) (at : Place) (u v : ℕ) (gs : List ℕ) (s e : Inference)
      → Does p rest k (task.Agree at ∷ []) s e → Kept s s → s.given ≡ u ∷ v ∷ gs → Ending f e → Equal f scope s e (v ∷ gs) u v
  unfolding acted
  agree_done f scope rest k at u v gs s e d kept given ending =
      let below : Inference = record (left rest s) { given = v ∷ gs } in
      let one : taken (left rest s) ≡ gives u below = taken_is (left rest s) u (v ∷ gs) given in
      let step : acted (task.Agree at) p (left rest s) ≡ equated at u v (record s { tasks = rest; given = v ∷ gs }) =
      ap (λ (x : Gives). let y = taken x.state in equated at x.found y.found (given_back y.found y.state)) one in
      let has = ungiven s s u (v ∷ gs) given kept in
      let has_v = ungiven s (record s { given = v ∷ gs }) v gs refl has.0 in
      let both = task_left rest k (task.Agree at) s e d kept in
      let under = ungiven s (left rest s) u (v ∷ gs) given both.0 in
      equal_done f scope rest k (task.Agree at) (v ∷ gs) at u v s e d kept under.0 has.1 has_v.1 step ending

  -- what a task leaves that puts nothing first and takes and gives types
  pub record Gave (scope : List ℕ) (s e : Inference) (v : ℕ) (gs : List ℕ) : Type 0 where
    pub gives : e.given ≡ v ∷ gs
    pub there : Has e v
    pub follows : Follows p scope s e

  -- a type is given
  pub give_done :
      (scope : List ℕ) (rest : List Task) (k : ℕ) (t : ℕ) (s e : Inference) → Does p rest k (task.Give t ∷ []) s e → Kept s s
      → Gave scope s e t s.given
  unfolding acted
  give_done scope rest k t s e d kept =
      let once = once_done rest k (task.Give t) s e d refl kept in
      let after : Inference = record s { tasks = rest; given = t ∷ s.given } in
      let all = given_kept s (left rest s) t once.before once.there in
      subst (λ (x : Inference). Gave scope s x t s.given) once.is
      (record { gives = refl; there = once.there; follows = follows_given scope s rest (t ∷ s.given) all })

  -- a type is taken of which nothing is asked
  pub forget_done :
      (scope : List ℕ) (rest : List Task) (k : ℕ) (v : ℕ) (gs : List ℕ) (s e : Inference) → Does p rest k (task.Forget ∷ []) s e
      → Kept s s
      → s.given ≡ v ∷ gs → (e.given ≡ gs) × Follows p scope s e
  unfolding acted
  forget_done scope rest k v gs s e d kept given =
      let step : acted task.Forget p (left rest s) ≡ record s { tasks = rest; given = gs } =
      ap (λ (u : Gives). u.state) (taken_is (left rest s) v gs given) in
      let once = once_done rest k task.Forget s e d (ap (λ (x : Inference). x.tasks) step) kept in
      let all = ungiven s (left rest s) v gs given once.before in
      subst (λ (x : Inference). (x.given ≡ gs) × Follows p scope s x) (sym step ∙ once.is)
      (refl, follows_given scope s rest gs all.0)

  -- a function type is made of the type that is taken, and given
  pub lambda_done :
      (f : ℕ → Ty) (scope : List ℕ) (rest : List Task) (k : ℕ) (a v : ℕ) (gs : List ℕ) (s e : Inference)
      → Does p rest k (task.Lambda a ∷ []) s e → Kept s s → s.given ≡ v ∷ gs → Ending f e
      → (w : ℕ) × Gave scope s e w gs × (f w ≡ function (f a) (f v))
  unfolding acted acted_on_data
  lambda_done f scope rest k a v gs s e d kept given ending =
      let under : Inference = record s { tasks = rest; given = gs } in
      let w = length s.types.nodes in
      let h = applied 15 (a ∷ v ∷ []) false s.types in
      let after : Inference = record s { tasks = rest; given = w ∷ gs; types = h } in
      let step : acted (task.Lambda a) p (left rest s) ≡ after =
      ap (λ (u : Gives). let x = function_from a u in given_back x.found x.state) (taken_is (left rest s) v gs given) in
      let once = once_done rest k (task.Lambda a) s e d (ap (λ (x : Inference). x.tasks) step) kept in
      let has = ungiven s (left rest s) v gs given once.before in
      let made = inner_made l s under 15 (a ∷ v ∷ []) has.0 (λ room. (once.there room, (has.1 room, tt))) in
      let is = type_is l s under 15 (a ∷ v ∷ []) false in
      let all = given_kept s (record under { types = h }) w made is in
      let here = inner_made l under under 15 (a ∷ v ∷ []) (kept_here s under has.0) (λ room. (once.there room, (has.1 room, tt))) in
      let leads = type_leads l s under has.0 15 (a ∷ v ∷ []) p (λ room. (once.there room, (has.1 room, tt))) in
      let end : after ≡ e = sym step ∙ once.is in
      let there : HasRoom h × Reads f h = subst (λ (x : Inference). HasRoom x.types × Reads f x.types) (sym end)
      (ending.room, ending.reads) in (
        w,
        subst (λ (x : Inference). Gave scope s x w gs) end
            (record {
              gives = refl;
              there = is;
              follows =
                  follows_on p scope s under after (follows_given scope s rest gs has.0)
                  (follows_on p scope under (record under { types = h }) after
                  (follows_leads p scope under (record under { types = h }) here leads)
                  (follows_given scope (record under { types = h }) rest (w ∷ gs) (given_kept _ _ w (kept_here s _ made) is)));
            }),
        type_is_read l s under has.0 15 (a ∷ v ∷ []) false f (room_before under (record under { types = h }) here there.0) there.1,
      )

module _ (l : GraphLaws) (p : Parts) where
  two_there :
      (f : ℕ → Ty) (xs : List ℕ) (a b : ℕ) → length xs ≤ 2 → slice_get xs 0 ≡ Some a → slice_get xs 1 ≡ Some b
      → Constructed 15 (trees_of f xs) ≡ function (f a) (f b)
  two_there f [] a b few first second = absurd (cc)
  two_there f (x ∷ []) a b few first second = absurd (cc)
  two_there f (x ∷ y ∷ []) a b few first second =
      let one : x ≡ a = cc in
      let two : y ≡ b = cc in
      cc
  two_there f (x ∷ y ∷ z ∷ xs) a b few first second = absurd (omega arith)

  two_of_part : (xs : List ℕ) (first count : ℕ) → count ≡ 2 → length (part_of xs first count) ≤ 2
  two_of_part xs first count two =
      elim (nat_le (first + count) (length xs)) as (λ b. length (if b then take count (drop first xs) else []) ≤ 2) [
        | true ↦ let long = length-take count (drop first xs) in omega arith
        | false ↦ omega arith
      ]

  function_at :
      (f : ℕ → Ty) (arguments : List ℕ) (form : Form) (t : Ty) (a b : ℕ) → is_of form 15 2 ≡ true
      → argument_of arguments form 0 ≡ Some a
      → argument_of arguments form 1 ≡ Some b → IsOfForm f arguments form t → t ≡ function (f a) (f b)
  function_at f arguments Variable t a b is first second reads = absurd (cc)
  function_at f arguments (Link m) t a b is first second reads = absurd (cc)
  function_at f arguments (Applied c at count) t a b is first second reads =
      let both = both_hold (c == 15) (count == 2) is in
      let row : c ≡ 15 = equal_numbers c 15 both.0 in
      let two : count ≡ 2 = equal_numbers count 2 both.1 in
      reads ∙ ap (λ d. Constructed d (trees_of f (part_of arguments at count))) row
      ∙ two_there f (part_of arguments at count) a b (two_of_part arguments at count two) first second
    where
      equal_numbers : (m n : ℕ) → IsTrue (m == n) → m ≡ n
      equal_numbers m n e = ⊎_elim (λ p. p.1) (λ p. absurd (cc)) (eqb_tells m n)

  -- a function that is known is read as one
  function_read :
      (f : ℕ → Ty) (g : Graph) (n a b : ℕ) → IsWellFormed g → Reads f g → (is_of (form_of g.nodes n) 15 2 ≡ true)
      → argument_of g.arguments (form_of g.nodes n) 0 ≡ Some a → argument_of g.arguments (form_of g.nodes n) 1 ≡ Some b
      → f n ≡ function (f a) (f b)
  function_read f g n a b well reads is first second =
      function_at f g.arguments (form_of g.nodes n) (f n) a b is first second
      (subst (λ t. IsOfForm f g.arguments (form_of g.nodes n) t) (sym (l.root_equal g f well reads n)) (reads (root g.nodes n)))

  -- what an application leaves
  pub record Applying (f : ℕ → Ty) (scope : List ℕ) (s e : Inference) (given found : ℕ) (gs : List ℕ) : Type 0 where
    pub result : ℕ
    pub gave : Gave l p scope s e result gs
    pub applies : f found ≡ function (f given) (f result)

  module _ (f : ℕ → Ty) (scope : List ℕ) (at here : Place) (given found : ℕ) (gs : List ℕ) (s e : Inference) where
    unknown_done :
        Kept s s → s.given ≡ gs → Has s given → Has s found → applied_unknown at given found s ≡ e → Ending f e
        → Applying f scope s e given found gs
    unknown_done kept under has_given has_found is ending =
        let answer = length s.types.nodes in
        let t : Inference = given_back answer (new_variable s).state in
        let made = variable_made l s s kept in
        let there = variable_is l s s in
        let t_kept = given_kept s (new_variable s).state answer made there in
        let h = applied 15 (given ∷ answer ∷ []) false t.types in
        let u : Inference = record t { types = h } in
        let n = length t.types.nodes in
        let given_t = has_later s t given t_kept has_given in
        let found_t = has_later s t found t_kept has_found in
        let both : HasAll t (given ∷ answer ∷ []) = λ room. (given_t room, (there room, tt)) in
        let u_kept = inner_made l s t 15 (given ∷ answer ∷ []) t_kept both in
        let u_here = inner_made l t t 15 (given ∷ answer ∷ []) (kept_here s t t_kept) both in
        let n_is = type_is l s t 15 (given ∷ answer ∷ []) false in
        let found_u = has_later t u found u_here found_t in
        let answer_u = has_later t u answer u_here there in
        let same = equated_same l s u u_kept at found n in
        let leads = equated_leads l s u u_kept at found n p found_u n_is in
        let e_here = equated_kept l u u at found n (kept_here s u u_kept) found_u n_is in
        let first : Follows p scope s u =
        follows_on p scope s (new_variable s).state u
        (follows_leads p scope s (new_variable s).state made (variable_leads l s s kept p))
        (follows_on p scope (new_variable s).state t u
        (follows_given l p scope (new_variable s).state s.tasks (answer ∷ s.given)
        (given_kept _ _ answer (kept_here s _ made) there))
        (follows_leads p scope t u u_here (type_leads l s t t_kept 15 (given ∷ answer ∷ []) p both))) in
        let end : HasRoom (equated at found n u).types ×
        (((equated at found n u).end ≡ None) × Reads f (equated at found n u).types) =
        subst (λ (x : Inference). HasRoom x.types × ((x.end ≡ None) × Reads f x.types)) (sym is)
        (ending.room, (ending.on, ending.reads)) in
        let equal = equated_equal l s u u_kept at found n found_u n_is end.0 end.1.0 f end.1.1 in
        let u_room = room_before u (equated at found n u) e_here end.0 in
        let reads_u = e_here.reads end.0 end.1.0 f end.1.1 in
        let function_is = type_is_read l s t t_kept 15 (given ∷ answer ∷ []) false f (room_before t u u_here u_room) reads_u in
        record {
          result = answer;
          gave =
              subst (λ (x : Inference). Gave l p scope s x answer gs) is
              (record {
                gives = leads.rest.same_given ∙ ap (λ (xs : List ℕ). answer ∷ xs) under;
                there = has_later u (equated at found n u) answer e_here answer_u;
                follows =
                    follows_on p scope s u (equated at found n u) first
                    (follows_leads p scope u (equated at found n u) e_here leads);
              });
          applies = equal ∙ function_is;
        }

    known_done :
        (is_function : Bool) (a b : Option ℕ) → is_of (form_of s.types.nodes found) 15 2 ≡ is_function
        → argument_of s.types.arguments (form_of s.types.nodes found) 0 ≡ a
        → argument_of s.types.arguments (form_of s.types.nodes found) 1 ≡ b
        → Kept s s → s.given ≡ gs → Has s given → Has s found → HasIf s a → HasIf s b
        → applied_known is_function a b at here given found s ≡ e → Ending f e → Applying f scope s e given found gs
    known_done true (Some a) (Some b) is first second kept under has_given has_found has_a has_b end ending =
        let t = given_back b s in
        let t_kept = given_kept s s b kept has_b in
        let leads = equated_leads l s t t_kept here given a p has_given has_a in
        let e_here = equated_kept l t t here given a (kept_here s t t_kept) has_given has_a in
        let there : HasRoom (equated here given a t).types ×
        (((equated here given a t).end ≡ None) × Reads f (equated here given a t).types) =
        subst (λ (x : Inference). HasRoom x.types × ((x.end ≡ None) × Reads f x.types)) (sym end)
        (ending.room, (ending.on, ending.reads)) in
        let equal = equated_equal l s t t_kept here given a has_given has_a there.0 there.1.0 f there.1.1 in
        let room = room_before t (equated here given a t) e_here there.0 in
        let reads = e_here.reads there.0 there.1.0 f there.1.1 in
        let function_is = function_read f s.types found a b (kept.whole room).types.well reads is first second in
        record {
          result = b;
          gave =
              subst (λ (x : Inference). Gave l p scope s x b gs) end
              (record {
                gives = leads.rest.same_given ∙ ap (λ (xs : List ℕ). b ∷ xs) under;
                there = has_later t (equated here given a t) b e_here has_b;
                follows =
                    follows_on p scope s t (equated here given a t) (follows_given l p scope s s.tasks (b ∷ s.given) t_kept)
                    (follows_leads p scope t (equated here given a t) e_here leads);
              });
          applies = function_is ∙ ap (λ (x : Ty). function x (f b)) (sym equal);
        }
    known_done true (Some a) None is first second kept under has_given has_found has_a has_b end ending =
        unknown_done kept under has_given has_found end ending
    known_done true None b is first second kept under has_given has_found has_a has_b end ending =
        unknown_done kept under has_given has_found end ending
    known_done false a b is first second kept under has_given has_found has_a has_b end ending =
        unknown_done kept under has_given has_found end ending

  -- two types are taken, and that of a result is given
  pub apply_done :
      (f : ℕ → Ty) (scope : List ℕ) (rest : List Task) (k : ℕ) (at here : Place) (given found : ℕ) (gs : List ℕ) (s e : Inference)
      → Does p rest k (task.Apply at here ∷ []) s e → Kept s s → s.given ≡ given ∷ found ∷ gs → Ending f e
      → Applying f scope s e given found gs
  unfolding acted acted_on_data
  apply_done f scope rest k at here given found gs s e d kept under ending =
      let u : Inference = record s { tasks = rest; given = gs } in
      let form = form_of s.types.nodes found in
      let a = argument_of s.types.arguments form 0 in
      let b = argument_of s.types.arguments form 1 in
      let one : taken (left rest s) ≡ record { found = given; state = record s { tasks = rest; given = found ∷ gs } } =
      taken_is (left rest s) given (found ∷ gs) under in
      let step : acted (task.Apply at here) p (left rest s) ≡ applied_known (is_of form 15 2) a b at here given found u =
      ap
      (λ (x : Gives).
      let y = taken x.state in
      applied_known (is_of (form_of y.state.types.nodes y.found) 15 2)
      (argument_of y.state.types.arguments (form_of y.state.types.nodes y.found) 0)
      (argument_of y.state.types.arguments (form_of y.state.types.nodes y.found) 1) at here x.found y.found y.state) one in
      let both = task_left l p rest k (task.Apply at here) s e d kept in
      let has_given = ungiven l p s s given (found ∷ gs) under kept in
      let has_found = ungiven l p s (record s { given = found ∷ gs }) found gs refl has_given.0 in
      let first = ungiven l p s (left rest s) given (found ∷ gs) under both.0 in
      let second = ungiven l p s (record s { tasks = rest; given = found ∷ gs }) found gs refl first.0 in
      let u_here = kept_here s u second.0 in
      let pushed = ap (λ (x : Inference). x.tasks) step ∙ applied_tasks p (is_of form 15 2) a b at here given found u in
      let once = once_done l p rest k (task.Apply at here) s e d pushed kept in
      let r =
      known_done f scope at here given found gs u e (is_of form 15 2) a b refl refl refl u_here refl has_given.1 has_found.1
      (argument_there l u u form 0 u_here) (argument_there l u u form 1 u_here) (sym step ∙ once.is) ending in
      record {
        result = r.result;
        gave = record {
          gives = r.gave.gives;
          there = r.gave.there;
          follows = follows_on p scope s u e (follows_given l p scope s rest gs second.0) r.gave.follows;
        };
        applies = r.applies;
      }
