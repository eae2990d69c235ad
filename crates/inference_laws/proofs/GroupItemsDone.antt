-- The walk over a top-level group of functions, where it doesn't end, gives what the rules of items say.
use Rattle.std.proofs.Common.{◌≡◌, ℕ, ◌==◌, ◌||◌, not, Bool, true, false, List, [], ◌∷◌, ◌++◌, map, flat_map, Some, None, Option, refl, sym, ◌∙◌, ap, subst, ⊎_elim}
use Rattle.std.specs.Prelude.{IsTrue, MatchBool}
use Rattle.std.specs.List.{AllByRecursion, list_all}
use Rattle.std.proofs.lemmas.Bool.Decides.{eqb_tells}
use Rattle.effect_meaning.specs.declared.core_nodes.Function.{Function}
use Rattle.effect_meaning.specs.Arena.{Parts, AllMet, counts, function_needs}
use Rattle.effect_meaning.specs.ArenaTrees.{functions_tree, program, terms_of, types_of}
use Rattle.effect_meaning.specs.Scoped.{Scope, are_new, differ, function_names, functions_scoped, holds, is_new, with_names}
use Rattle.effect_meaning.specs.Terms.{DefineRec, Functions}
use Rattle.type_graph.specs.Graph.{built_in}
use Rattle.type_terms.specs.TypeTrees.{Ty}
use Rattle.type_terms.specs.Contexts.{NameHas, Names, with_names as with_types}
use Rattle.type_terms.specs.Typing.{FunctionsHave}
use Rattle.type_terms.specs.Items.{Group, definition_types, item_context}
use Rattle.type_terms.specs.WrittenTypes.{Every}
use Rattle.type_readings.specs.Readings.{Reads}
use Rattle.ml_infer.specs.declared.inference.Inference.{Inference}
use Rattle.ml_infer.specs.declared.inference.NameType.{NameType}
use Rattle.ml_infer.specs.declared.inference.NameType.TheVariants.{One, Generalised}
use Rattle.ml_infer.specs.declared.tasks.Task.{Task}
use Rattle.ml_infer.specs.declared.tasks.Task.TheVariants as task
use Rattle.ml_infer.specs.Inference.{Gives, name_noted, one_of_known}
use Rattle.ml_infer.specs.Items.{defined_rec, definition_noted, done, generalised, generalised_each, given_outer}
use Rattle.ml_infer.specs.Known.{known, noted}
use Rattle.ml_infer.specs.Members.{count_of}
use Rattle.ml_infer.specs.Terms.{functions_first, group_function}
use Rattle.inference_laws.specs.Meanings.{VariablesAgree}
use Rattle.inference_laws.proofs.Kept.{Kept, kept_here, kept_on}
use Rattle.inference_laws.proofs.GraphLaws.{GraphLaws}
use Rattle.inference_laws.proofs.Steps.{ended_kept}
use Rattle.inference_laws.proofs.Terms.{functions_kept}
use Rattle.inference_laws.proofs.Walk.{finished_kept}
use Rattle.inference_laws.proofs.Items.{each_generalised}
use Rattle.inference_laws.proofs.Noting.{noted_other, noted_same}
use Rattle.inference_laws.proofs.Runs.{left, Does}
use Rattle.inference_laws.proofs.Definitions.{AreSmall, IsSmall, generalised_small}
use Rattle.inference_laws.proofs.Grounds.{Tops, NameAgrees, standing, names_of, scope_of, HasScope, Ground, Ending, Follows}
use Rattle.inference_laws.proofs.Booleans.{both_hold, fails}
use Rattle.inference_laws.proofs.Following.{holds_first, holds_later}
use Rattle.inference_laws.proofs.Pushing.{names_tasks}
use Rattle.inference_laws.proofs.TopNames.{Entry, Grouped, Behind, UseIs, all_names, ground_of, known_tops, known_uses, leaves_follows, leaves_kept, leaves_on, meant_kept, outer_later, all_outers, scope_of_all, tops_of}
use Rattle.inference_laws.proofs.ItemsDone.{ItemDone, chosen, chosen_agree, does_ends, done_does, ends_before, every_of_both}

-- the tree of a group
abbrev pub group_tree : Parts → List Function → Functions
group_tree p fs = functions_tree (types_of p) (terms_of p) fs

-- a group of functions is done by itself, behind top-level names: its functions have the types of their names
pub record GroupSolved (p : Parts) (f : ℕ → Ty) (tops : Tops) (vs : ℕ → Ty) (fs : List Function) (s e : Inference) : Type 0 where
  pub group : Names
  pub follows : Follows p (scope_of tops []) s e
  pub named : names_of group ≡ function_names (group_tree p fs)
  pub agree : AllByRecursion (NameAgrees f e) group
  pub typed : VariablesAgree f vs e → FunctionsHave (standing p tops (group ++ []) vs) (group_tree p fs) group

-- what is shown of a group by itself
abbrev pub GroupIsRuled : Parts → (ℕ → Ty) → Tops → (ℕ → Ty) → List Function → Type 0
GroupIsRuled p f tops vs fs =
    (sc : Scope) (k : ℕ) (s e : Inference)
    → Does p [] k (map (λ g. task.Function (group_function g)) fs) (functions_first fs (left [] s)) e → Ending f e
    → Ground p f tops s []
    → HasScope sc tops [] → IsTrue (are_new sc (function_names (group_tree p fs)))
    → IsTrue (functions_scoped (with_names (function_names (group_tree p fs)) sc) (group_tree p fs))
    → GroupSolved p f tops vs fs s e

-- a name that has a type among others has it as it is known
record KnownThere (f : ℕ → Ty) (s : Inference) (ns : Names) (x : ℕ) : Type 0 where
  number : ℕ
  pattern : ℕ
  is : known s.names x ≡ Some (One number pattern)
  has : NameHas ns x (f number) ⊥

known_there :
    (f : ℕ → Ty) (s : Inference) (ns : Names) (x : ℕ) → AllByRecursion (NameAgrees f s) ns → IsTrue (holds (names_of ns) x)
    → KnownThere f s ns x
known_there f s [] x agree is = absurd (fails is)
known_there f s (n ∷ ns) x agree is =
    ⊎_elim
    (λ h.
    let head = agree.0 in
    record {
      number = head.0;
      pattern = head.1;
      is = ap (known s.names) h.1 ∙ head.2;
      has = subst (λ b. MatchBool b (f head.0 ≡ n.1) (NameHas ns x (f head.0) ⊥)) (sym h.0) head.3;
    })
    (λ h.
    let k = known_there f s ns x agree.1 (subst (λ b. IsTrue (b || holds (names_of ns) x)) h.0 is) in
    record {
      number = k.number;
      pattern = k.pattern;
      is = k.is;
      has = subst (λ b. MatchBool b (f k.number ≡ n.1) (NameHas ns x (f k.number) ⊥)) (sym h.0) k.has;
    })
    (eqb_tells x n.0)

-- the names before others
holds_both : (xs ys zs : List ℕ) (x : ℕ) → holds ys x ≡ holds zs x → holds (xs ++ ys) x ≡ holds (xs ++ zs) x
holds_both [] ys zs x e = e
holds_both (y ∷ xs) ys zs x e = ap (λ b. (x == y) || b) (holds_both xs ys zs x e)

holds_other : (xs ys : List ℕ) (x : ℕ) → holds xs x ≡ false → holds (xs ++ ys) x ≡ holds ys x
holds_other [] ys x e = refl
holds_other (y ∷ xs) ys x e =
    ⊎_elim (λ h. absurd (clash (sym (ap (λ b. b || holds xs x) h.0) ∙ e)))
    (λ h. ap (λ b. b || holds (xs ++ ys) x) h.0 ∙ holds_other xs ys x (sym (ap (λ b. b || holds xs x) h.0) ∙ e)) (eqb_tells x y)
  where
    clash : true ≡ false → ⊥
    clash h = absurd (cc)

not_held : (b : Bool) → IsTrue (not b) → b ≡ false
not_held true h = absurd (fails h)
not_held false h = refl

-- names that agree with what is known have small types, if what is known of them are
names_small :
    (f : ℕ → Ty) (s : Inference) (ns : Names) → AllByRecursion (NameAgrees f s) ns
    → ((x v q : ℕ) → holds (names_of ns) x ≡ true → known s.names x ≡ Some (One v q) → IsSmall (f v))
    → Every IsSmall (map (λ n. n.1) ns)
names_small f s [] agree small = tt
names_small f s (n ∷ ns) agree small =
    let head = agree.0 in (
      subst IsSmall head.3 (small n.0 head.0 head.1 (holds_first n.0 (names_of ns)) head.2),
      names_small f s ns agree.1 (λ x v q is. small x v q (holds_later n.0 x (names_of ns) is)),
    )

-- what generalising names leaves: their types are generalised
record AllGeneralised (xs : List ℕ) (s e : Inference) : Type 0 where
  types : e.types ≡ s.types
  read : e.read ≡ s.read
  tasks : e.tasks ≡ s.tasks
  others : (x : ℕ) → holds xs x ≡ false → known e.names x ≡ known s.names x
  these : (x v q : ℕ) → holds xs x ≡ true → known s.names x ≡ Some (One v q) → known e.names x ≡ Some (Generalised v)
  small : (f : ℕ → Ty) → AreSmall f e → (x v q : ℕ) → holds xs x ≡ true → known s.names x ≡ Some (One v q) → IsSmall (f v)

module _ (p : Parts) where
  abbrev names_in_group : List Function → List ℕ
  names_in_group fs = function_names (group_tree p fs)

  -- each of the names has one type
  abbrev HaveOne : Inference → List Function → Type 0
  HaveOne s fs = (x : ℕ) → IsTrue (holds (names_in_group fs) x) → (v : ℕ) × (q : ℕ) × (known s.names x ≡ Some (One v q))

  generalised_all :
      (fs : List Function) (s : Inference) → IsTrue (differ (names_in_group fs)) → HaveOne s fs
      → AllGeneralised (names_in_group fs) s (generalised_each fs s)
  generalised_all [] s apart have =
      record {
        types = refl;
        read = refl;
        tasks = refl;
        others = λ x h. refl;
        these = λ x v q h is. absurd (cc);
        small = λ f small x v q h is. absurd (cc);
      }
  generalised_all (g ∷ fs) s apart have =
      let xs = names_in_group fs in
      let x = g.name in
      let both = both_hold (not (holds xs x)) (differ xs) apart in
      let mine = have x (first_there x xs) in
      let t : Inference = name_noted x (Generalised mine.0) (definition_noted mine.0 s) in
      let step : generalised x s ≡ t =
      ap (λ (u : Gives). name_noted x (Generalised u.found) (definition_noted u.found u.state))
      (ap (λ (o : Option NameType). one_of_known o x s) mine.2) in
      let free : holds xs x ≡ false = not_held (holds xs x) both.0 in
      let apart_from : (y : ℕ) → holds xs y ≡ true → y ≡ x → ⊥ = λ y is e. clash (sym is ∙ ap (holds xs) e ∙ free) in
      let more = generalised_all fs t both.1
      (λ y is. let k = have y (later y x xs is)
      in (k.0, k.1, noted_other x y (Generalised mine.0) s.names (apart_from y is) ∙ k.2)) in
      subst (λ (u : Inference). AllGeneralised (x ∷ xs) s (generalised_each fs u)) (sym step)
      (record {
        types = more.types;
        read = more.read;
        tasks = more.tasks;
        others =
            λ y h.
            ⊎_elim (λ k. absurd (clash (sym (ap (λ b. b || holds xs y) k.0) ∙ h)))
            (λ k. more.others y (sym (ap (λ b. b || holds xs y) k.0) ∙ h) ∙ noted_other x y (Generalised mine.0) s.names k.1)
            (eqb_tells y x);
        these =
            λ y v q h is.
            ⊎_elim
            (λ k.
            let same_known : Some (One mine.0 mine.1) ≡ Some (One v q) = sym mine.2 ∙ ap (known s.names) (sym k.1) ∙ is in
            let same : mine.0 ≡ v = cc in
            let unheld : holds xs y ≡ false = ap (holds xs) k.1 ∙ free in
            more.others y unheld ∙ ap (known (noted x (Generalised mine.0) s.names)) k.1 ∙ noted_same x (Generalised mine.0) s.names
            ∙ ap (λ (m : ℕ). Some (Generalised m)) same)
            (λ k.
            more.these y v q (sym (ap (λ b. b || holds xs y) k.0) ∙ h) (noted_other x y (Generalised mine.0) s.names k.1 ∙ is))
            (eqb_tells y x);
        small =
            λ f small y v q h is.
            ⊎_elim
            (λ k.
            let same_known : Some (One mine.0 mine.1) ≡ Some (One v q) = sym mine.2 ∙ ap (known s.names) (sym k.1) ∙ is in
            let same : mine.0 ≡ v = cc in subst (λ (m : ℕ). IsSmall (f m)) same (generalised_small f fs t small).0)
            (λ k.
            more.small f small y v q (sym (ap (λ b. b || holds xs y) k.0) ∙ h)
            (noted_other x y (Generalised mine.0) s.names k.1 ∙ is))
            (eqb_tells y x);
      })
    where
      clash : true ≡ false → ⊥
      clash h = absurd (cc)

      first_there : (x : ℕ) (xs : List ℕ) → IsTrue (holds (x ∷ xs) x)
      first_there x xs = ⊎_elim (λ h. subst (λ b. IsTrue (b || holds xs x)) (sym h.0) refl) (λ h. absurd (h.1 refl)) (eqb_tells x x)

      later : (y x : ℕ) (xs : List ℕ) → IsTrue (holds xs y) → IsTrue (holds (x ∷ xs) y)
      later y x xs is = so (y == x) (holds xs y) is
        where
          so : (a b : Bool) → IsTrue b → IsTrue (a || b)
          so true b h = refl
          so false b h = h

module _
    (l : GraphLaws) (p : Parts)
    (groups : (f : ℕ → Ty) → Reads f built_in → (tops : Tops) (vs : ℕ → Ty) (fs : List Function) → AllMet (counts p)
    (flat_map function_needs fs) → GroupIsRuled p f tops vs fs)
    (sc : Scope) (es : List Entry) (s : Inference) (b : Behind p sc es s) (fs : List Function)
    (met : AllMet (counts p) (flat_map function_needs fs))
    (new : IsTrue (are_new sc (function_names (group_tree p fs))))
    (scoped : IsTrue (functions_scoped (with_names (function_names (group_tree p fs)) sc) (group_tree p fs))) where
  abbrev xs : List ℕ
  xs = function_names (group_tree p fs)

  abbrev begun : Inference
  begun = functions_first fs s

  abbrev ended : Inference
  ended = done p begun

  abbrev behind_group : Inference
  behind_group = given_outer ended

  abbrev all : Inference
  all = generalised_each fs behind_group

  begun_kept : Kept s begun
  begun_kept = functions_kept l p s s b.here fs

  ended_here : Kept ended ended
  ended_here = kept_here begun ended (finished_kept l p 18446744073709551615 begun begun (kept_here s begun begun_kept))

  outer_kept : Kept ended behind_group
  outer_kept = ended_kept l ended ended ended_here

  all_kept : Kept behind_group all
  all_kept = each_generalised l p behind_group behind_group fs (kept_here ended behind_group outer_kept)

  solved :
      (f vs : ℕ → Ty) (k : ℕ) → Does p [] k (map (λ g. task.Function (group_function g)) fs) (functions_first fs (left [] s)) ended
      → Ending f ended
      → GroupSolved p f (known_tops p f es) vs fs s ended
  solved f vs k d ending =
      let all_before =
      kept_on s begun ended begun_kept (finished_kept l p 18446744073709551615 begun begun (kept_here s begun begun_kept)) in
      let reads = all_before.reads ending.room ending.on f ending.reads in
      groups f (b.built f reads) (known_tops p f es) vs fs met sc k s ended d ending (ground_of p sc es f s b reads)
      (scope_of_all p sc es f s b) new scoped

  group_from :
      (f : ℕ → Ty) (k : ℕ) → Does p [] k (map (λ g. task.Function (group_function g)) fs) (functions_first fs (left [] s)) ended
      → ended.tasks ≡ [] → Ending f all → ItemDone l p f (with_names xs sc) es (DefineRec (group_tree p fs) ∷ []) all
  group_from f k d idle ending =
      let ending_group = ends_before f behind_group all all_kept ending in
      let ending_ended = ends_before f ended behind_group outer_kept ending_group in
      let reads_ended : (h : ℕ → Ty) → Reads h all.types → Reads h ended.types = λ h r.
      outer_kept.reads ending_group.room ending_group.on h (all_kept.reads ending.room ending.on h r) in
      let by : (h : ℕ → Ty) → Reads h all.types → GroupSolved p h (known_tops p h es) (chosen h ended) fs s ended = λ h r.
      solved h (chosen h ended) k d (record { room = ending_ended.room; on = ending_ended.on; reads = reads_ended h r }) in
      let mine = by f ending.reads in
      let differs = (both_hold (differ xs) (list_all (is_new sc) xs) new).0 in
      let there : (h : ℕ → Ty) (r : Reads h all.types) (x : ℕ) → IsTrue (holds xs x) → KnownThere h ended (by h r).group x =
      λ h r x is.
      known_there h ended (by h r).group x (by h r).agree (subst (λ (ys : List ℕ). IsTrue (holds ys x)) (sym (by h r).named) is) in
      let general = generalised_all p fs behind_group differs
      (λ x is. let w = there f ending.reads x is in (w.number, w.pattern, w.is)) in
      let leaves =
      leaves_on p (all_names es) s ended behind_group (leaves_follows p (all_names es) s ended mine.follows)
      (leaves_kept p (all_names es) ended behind_group outer_kept refl refl) in
      let kept = kept_on s behind_group all leaves.kept all_kept in
      record {
        entries = Grouped (group_tree p fs) ∷ es;
        behind = record {
          here = kept_here s all kept;
          room = ending.room;
          on = ending.on;
          idle = general.tasks ∙ idle;
          counted = λ t low. ap (λ ms. count_of ms t) kept.counted ∙ b.counted t low;
          meant =
              meant_kept p behind_group all all_kept general.read ending.room ending.on
              (leaves.meant ending_group.room ending_group.on b.meant);
          built = λ h r. b.built h (kept.reads ending.room ending.on h r);
          used =
              λ h r x is.
              used_so h x (holds xs x) refl
              (λ e.
              let w = there h r x e in
              let o = by h r in
              subst (UseIs p h (Grouped (group_tree p fs) ∷ es) x) (sym (general.these x w.number w.pattern e w.is))
              (subst (λ c. MatchBool c (Groups h x (h w.number)) (known_uses p h es x (h w.number))) (sym e)
              (chosen h ended, o.group, o.typed (chosen_agree h ended), w.has)))
              (λ e.
              let among : IsTrue (holds (all_names es) x) = subst IsTrue (holds_other xs (all_names es) x e) is in
              subst (UseIs p h (Grouped (group_tree p fs) ∷ es) x) (sym (general.others x e ∙ leaves.same x among))
              (use_more h x (known s.names x) e (b.used h (kept.reads ending.room ending.on h r) x among)));
          outers = outer_later s all kept ending.room ending.on (all_outers es) b.outers;
          scope = λ x. holds_both xs sc.names (all_names es) x (b.scope x);
        };
        has =
            λ small rest h.
            let these = names_small f ended mine.group mine.agree
            (λ x v q is known_so. general.small f small x v q
            (subst (λ (ys : List ℕ). holds ys x ≡ true) mine.named is) known_so) in (
              (chosen f ended, mine.group, mine.typed (chosen_agree f ended), h.0),
              every_of_both IsSmall (map (λ n. n.1) mine.group)
                  (definition_types (program p) (Group (group_tree p fs) ∷ tops_of f es) rest h.0)
                  these h.1,
            );
      }
    where
      Groups : (ℕ → Ty) → ℕ → Ty → Type 0
      Groups h x t =
          (variables : ℕ → Ty) × (names : Names)
          × FunctionsHave (with_types names (item_context (program p) (known_uses p h es) variables)) (group_tree p fs) names
          × NameHas names x t ⊥

      used_so :
          (h : ℕ → Ty) (x : ℕ) (c : Bool) → holds xs x ≡ c
          → (holds xs x ≡ true → UseIs p h (Grouped (group_tree p fs) ∷ es) x (known all.names x))
          → (holds xs x ≡ false → UseIs p h (Grouped (group_tree p fs) ∷ es) x (known all.names x))
          → UseIs p h (Grouped (group_tree p fs) ∷ es) x (known all.names x)
      used_so h x true e one other = one e
      used_so h x false e one other = other e

      use_more :
          (h : ℕ → Ty) (x : ℕ) (o : Option NameType) → holds xs x ≡ false → UseIs p h es x o
          → UseIs p h (Grouped (group_tree p fs) ∷ es) x o
      use_more h x None e is = is
      use_more h x (Some (One v q)) e is = subst (λ c. MatchBool c (Groups h x (h v)) (known_uses p h es x (h v))) (sym e) is
      use_more h x (Some (Generalised v)) e is = subst (λ c. MatchBool c (Groups h x (h v)) (known_uses p h es x (h v))) (sym e) is

  pub group_item_done :
      (f : ℕ → Ty) → Ending f (defined_rec p fs s)
      → ItemDone l p f (with_names xs sc) es (DefineRec (group_tree p fs) ∷ []) (defined_rec p fs s)
  group_item_done f ending =
      let ending_group = ends_before f behind_group all all_kept ending in
      let ending_ended = ends_before f ended behind_group outer_kept ending_group in
      let tasks = map (λ (g : Function). task.Function (group_function g)) fs in
      let idle : begun.tasks ≡ tasks =
      ap (λ (ts : List Task). tasks ++ ts) (names_tasks p fs s ∙ b.idle) ∙ nil_behind tasks in
      let run = done_does l p begun tasks idle ending_ended.on in
      let same : s ≡ left [] s = ap (λ (ts : List Task). left ts s) b.idle in
      let d : Does p [] run.0 tasks (functions_first fs (left [] s)) ended =
      subst (λ (x : Inference). Does p [] run.0 tasks (functions_first fs x) ended) same run.1 in
      group_from f run.0 d (does_ends l p [] run.0 tasks begun ended run.1) ending
    where
      nil_behind : (ts : List Task) → ts ++ [] ≡ ts
      nil_behind [] = refl
      nil_behind (t ∷ ts) = ap (λ (us : List Task). t ∷ us) (nil_behind ts)
