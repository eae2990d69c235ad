-- The walk over a top-level definition by a pattern, where it doesn't end, gives what the rules of items say.
use Rattle.std.proofs.Common.{◌≡◌, ℕ, ◌<◌, ◌≤◌, ◌==◌, ◌||◌, Bool, true, false, List, [], ◌∷◌, ◌++◌, length, map, Option, Some, None, refl, sym, ◌∙◌, ap, subst, arith, ⊎_elim}
use Rattle.std.specs.Prelude.{IsTrue, MatchBool}
use Rattle.std.specs.List.{AllByRecursion}
use Rattle.std.proofs.lemmas.Bool.Decides.{eqb_tells}
use Rattle.effect_meaning.specs.Arena.{Parts, IsArena}
use Rattle.effect_meaning.specs.ArenaTrees.{pattern_at, patterns_of, program, term_at, terms_of}
use Rattle.effect_meaning.specs.Scoped.{Scope, holds, names_in, sides_agree, term_scoped, with_names}
use Rattle.effect_meaning.specs.Terms.{Destructure, Pattern, Place}
use Rattle.type_graph.specs.Graph.{built_in}
use Rattle.type_terms.specs.TypeTrees.{Ty}
use Rattle.type_terms.specs.Contexts.{NameHas, Names}
use Rattle.type_terms.specs.PatternTypes.{PatternHas}
use Rattle.type_terms.specs.Items.{item_context}
use Rattle.type_readings.specs.Readings.{Reads}
use Rattle.type_readings.specs.WellFormed.{IsOuter}
use Rattle.ml_infer.specs.declared.inference.Inference.{Inference}
use Rattle.ml_infer.specs.declared.inference.NameType.{NameType}
use Rattle.ml_infer.specs.declared.inference.NameType.TheVariants.{One, Generalised}
use Rattle.ml_infer.specs.declared.tasks.Task.{Task}
use Rattle.ml_infer.specs.declared.tasks.Task.TheVariants as task
use Rattle.ml_infer.specs.Inference.{Gives}
use Rattle.ml_infer.specs.Items.{bound_outer, definition_noted, destructured, done, term_found}
use Rattle.ml_infer.specs.Known.{known}
use Rattle.ml_infer.specs.Members.{count_of}
use Rattle.ml_infer.specs.Patterns.{whole_pattern}
use Rattle.inference_laws.specs.Meanings.{ReadsAreMeant, VariablesAgree}
use Rattle.inference_laws.proofs.Kept.{Kept, Has, has_later, kept_here, kept_on}
use Rattle.inference_laws.proofs.Fields.{definition_kept}
use Rattle.inference_laws.proofs.GraphLaws.{GraphLaws}
use Rattle.inference_laws.proofs.Patterns.{whole_pattern_kept}
use Rattle.inference_laws.proofs.Walk.{finished_kept}
use Rattle.inference_laws.proofs.Items.{bound_outer_kept, found_kept}
use Rattle.inference_laws.proofs.Runs.{Does}
use Rattle.inference_laws.proofs.Grounds.{Tops, names_of, Ending, IsBound}
use Rattle.inference_laws.proofs.Booleans.{fails}
use Rattle.inference_laws.proofs.HeldNames.{NoneBound, pattern_held}
use Rattle.inference_laws.proofs.TermsDone.{PatternIsRuled, TermIsRuled}
use Rattle.inference_laws.proofs.TopNames.{Entry, Shared, AreOuter, Behind, UseIs, all_names, all_of_both, all_outers, known_tops, known_uses, meant_kept, outer_later, read_names}
use Rattle.inference_laws.proofs.ItemsDone.{ItemDone, chosen, chosen_agree, does_ends, done_does, ends_before, found_done, outer_or, tree}

-- names have these types by the pattern at hand
abbrev AreKnown : Inference → List (ℕ × ℕ) → Type 0
AreKnown s ns = AllByRecursion (λ n. known s.names n.0 ≡ Some (One n.1 s.pattern)) ns

-- the names of a pattern with the numbers of their types
record Numbered (f : ℕ → Ty) (s : Inference) (names : Names) : Type 0 where
  numbers : List (ℕ × ℕ)
  known : AreKnown s numbers
  read : read_names f numbers ≡ names
  keys : map (λ n. n.0) numbers ≡ names_of names

numbered : (f : ℕ → Ty) (s : Inference) (names : Names) → AllByRecursion (IsBound f s) names → Numbered f s names
numbered f s [] h = record { numbers = []; known = tt; read = refl; keys = refl }
numbered f s (n ∷ names) h =
    let more = numbered f s names h.1 in
    let v = h.0.0 in
    record {
      numbers = (n.0, v) ∷ more.numbers;
      known = (h.0.1, more.known);
      read = ap (λ (t : Ty). (n.0, t) ∷ read_names f more.numbers) h.0.2 ∙ ap (λ (ms : Names). n ∷ ms) more.read;
      keys = ap (λ (xs : List ℕ). n.0 ∷ xs) more.keys;
    }

-- a name among them has the type that is known of it
record KnownAmong (h : ℕ → Ty) (s : Inference) (ns : List (ℕ × ℕ)) (x : ℕ) (otherwise : Ty → Type 0) : Type 0 where
  number : ℕ
  is : known s.names x ≡ Some (One number s.pattern)
  has : NameHas (read_names h ns) x (h number) (otherwise (h number))

known_among :
    (h : ℕ → Ty) (s : Inference) (ns : List (ℕ × ℕ)) (x : ℕ) (otherwise : Ty → Type 0) → AreKnown s ns
    → IsTrue (holds (map (λ n. n.0) ns) x)
    → KnownAmong h s ns x otherwise
known_among h s [] x otherwise all is = absurd (fails is)
known_among h s (n ∷ ns) x otherwise all is =
    ⊎_elim
    (λ e. record {
      number = n.1;
      is = ap (known s.names) e.1 ∙ all.0;
      has = subst (λ b. MatchBool b (h n.1 ≡ h n.1) (NameHas (read_names h ns) x (h n.1) (otherwise (h n.1)))) (sym e.0) refl;
    })
    (λ e.
    let more = known_among h s ns x otherwise all.1 (subst (λ b. IsTrue (b || holds (map (λ n. n.0) ns) x)) e.0 is) in
    record {
      number = more.number;
      is = more.is;
      has =
          subst (λ b. MatchBool b (h more.number ≡ h n.1)
          (NameHas (read_names h ns) x (h more.number) (otherwise (h more.number)))) (sym e.0)
          more.has;
    })
    (eqb_tells x n.0)

-- another name has the types that it has otherwise
known_otherwise :
    (h : ℕ → Ty) (ns : List (ℕ × ℕ)) (x : ℕ) (t : Ty) (otherwise : Type 0) → holds (map (λ n. n.0) ns) x ≡ false → otherwise
    → NameHas (read_names h ns) x t otherwise
known_otherwise h [] x t otherwise e is = is
known_otherwise h (n ∷ ns) x t otherwise e is =
    ⊎_elim (λ k. absurd (clash (sym (ap (λ b. b || holds (map (λ m. m.0) ns) x) k.0) ∙ e)))
    (λ k.
    subst (λ b. MatchBool b (t ≡ h n.1) (NameHas (read_names h ns) x t otherwise)) (sym k.0)
    (known_otherwise h ns x t otherwise (sym (ap (λ b. b || holds (map (λ m. m.0) ns) x) k.0) ∙ e) is))
    (eqb_tells x n.0)
  where
    clash : true ≡ false → ⊥
    clash h = absurd (cc)

-- what holds of all holds of each
all_at : (P : ℕ → Type 0) (xs : List ℕ) (v : ℕ) → AllByRecursion P xs → IsTrue (holds xs v) → P v
all_at P [] v h is = absurd (fails is)
all_at P (x ∷ xs) v h is =
    ⊎_elim (λ k. subst P (sym k.1) h.0) (λ k. all_at P xs v h.1 (subst (λ b. IsTrue (b || holds xs v)) k.0 is)) (eqb_tells v x)

-- a name is among two lists where it is among one of them
or_assoc : (a b c : Bool) → (a || (b || c)) ≡ ((a || b) || c)
or_assoc true b c = refl
or_assoc false b c = refl

holds_appended : (xs ys : List ℕ) (x : ℕ) → holds (xs ++ ys) x ≡ (holds xs x || holds ys x)
holds_appended [] ys x = refl
holds_appended (y ∷ xs) ys x = ap (λ b. (x == y) || b) (holds_appended xs ys x) ∙ or_assoc (x == y) (holds xs x) (holds ys x)

module _
    (l : GraphLaws) (p : Parts) (arena : IsArena p) (few : length p.terms ≤ 4294967295)
    (terms : (f : ℕ → Ty) → Reads f built_in → (tops : Tops) (vs : ℕ → Ty) (n : ℕ) → n < length p.terms → TermIsRuled p f tops vs n)
    (patterns : (f : ℕ → Ty) → Reads f built_in → (tops : Tops) (q : ℕ) → q < length p.patterns → PatternIsRuled p f tops q)
    (sc : Scope) (es : List Entry) (s : Inference) (b : Behind p sc es s) (q n : ℕ) (q_low : q < length p.patterns)
    (low : n < length p.terms)
    (agree : IsTrue (sides_agree (pattern_at (patterns_of p) q))) (scoped : IsTrue (term_scoped sc (term_at (terms_of p) n)))
    (none : NoneBound (whole_pattern q (term_found p n s).found (term_found p n s).state)) where
  abbrev found : Gives
  found = term_found p n s

  abbrev begun : Inference
  begun = whole_pattern q found.found found.state

  abbrev ended : Inference
  ended = done p begun

  abbrev noted_state : Inference
  noted_state = definition_noted found.found ended

  abbrev all : Inference
  all = bound_outer found.found noted_state

  abbrev Tree : Pattern
  Tree = pattern_at (patterns_of p) q

  found_here : Kept found.state found.state × Has found.state found.found
  found_here = let k = found_kept l p s s n b.here in (kept_here s found.state k.0, k.1)

  begun_kept : Kept found.state begun
  begun_kept = whole_pattern_kept found.state found.state q found.found found_here.0 found_here.1

  ended_kept : Kept begun ended
  ended_kept = finished_kept l p 18446744073709551615 begun begun (kept_here found.state begun begun_kept)

  ended_after : Kept found.state ended
  ended_after = kept_on found.state begun ended begun_kept ended_kept

  ended_has : Has ended found.found
  ended_has = has_later found.state ended found.found ended_after found_here.1

  noted_kept : Kept ended noted_state
  noted_kept = definition_kept ended ended found.found (kept_here begun ended ended_kept) ended_has

  all_kept : Kept noted_state all
  all_kept = bound_outer_kept l p noted_state noted_state found.found (kept_here ended noted_state noted_kept) ended_has

  module _ (f : ℕ → Ty) (ending : Ending f all) where
    ending_ended : Ending f ended
    ending_ended = ends_before f ended all (kept_on ended noted_state all noted_kept all_kept) ending

    ending_found : Ending f found.state
    ending_found = ends_before f found.state ended ended_after ending_ended

    pattern_from :
        (at : Place) (k : ℕ) → Does p [] k (task.PatternIs q found.found ∷ []) begun ended
        → ItemDone l p f (with_names (names_in Tree) sc) es (Destructure at Tree (tree l p n) ∷ []) all
    pattern_from at k d =
        let t = found_done l p arena few terms sc es s b n low scoped f ending_found in
        let vs = chosen f ended in
        let agree_ended = chosen_agree f ended in
        let meant_begun : ReadsAreMeant p begun =
        meant_kept p found.state begun begun_kept refl (ends_before f begun ended ended_kept ending_ended).room
        (ends_before f begun ended ended_kept ending_ended).on (t.leaves.meant ending_found.room ending_found.on b.meant) in
        let kept =
        kept_on s ended all (kept_on s found.state ended t.leaves.kept ended_after)
        (kept_on ended noted_state all noted_kept all_kept) in
        let reads_found = kept.reads ending.room ending.on f ending.reads in
        let one =
        patterns f (b.built f reads_found) (known_tops p f es) q q_low vs [] [] k found.found begun ended d
        (kept_here found.state begun begun_kept)
        (has_later found.state begun found.found begun_kept found_here.1) ending_ended meant_begun agree_ended agree in
        let ns = numbered f ended one.names one.bound in
        let agree_found : VariablesAgree f vs found.state = λ v m is item.
        agree_ended v m (one.binds.stay v m is item) (item ∙ sym one.binds.item) in
        let keys : (x : ℕ) → holds (map (λ m. m.0) ns.numbers) x ≡ holds (names_in Tree) x = λ x.
        ap (λ (xs : List ℕ). holds xs x) ns.keys ∙ one.keys x in
        let outer_all =
        l.outer_made (found.found ∷ ended.bound) ended.types ((kept_here begun ended ended_kept).whole ending_ended.room).types.well
        (ended_has ending_ended.room, (ended_kept.whole ending_ended.room).numbers.bound_there) few_bound in
        record {
          entries = Shared ns.numbers ∷ es;
          behind = record {
            here = kept_here s all kept;
            room = ending.room;
            on = ending.on;
            idle = does_ends l p [] k (task.PatternIs q found.found ∷ []) begun ended d;
            counted = λ t low. ap (λ ms. count_of ms t) kept.counted ∙ b.counted t low;
            meant =
                meant_kept p ended all (kept_on ended noted_state all noted_kept all_kept) refl ending.room ending.on
                (one.binds.meant ending_ended.room ending_ended.on meant_begun);
            built = λ h r. b.built h (kept.reads ending.room ending.on h r);
            used =
                λ h r x is.
                used_so ns.numbers h x (holds (map (λ m. m.0) ns.numbers) x) refl
                (λ e.
                let w = known_among h ended ns.numbers x (known_uses p h es x) ns.known e in
                subst (UseIs p h (Shared ns.numbers ∷ es) x) (sym w.is) w.has)
                (λ e.
                let among : IsTrue (holds (all_names es) x) =
                subst IsTrue
                (holds_appended (map (λ m. m.0) ns.numbers) (all_names es) x ∙ ap (λ c. c || holds (all_names es) x) e) is in
                let same : known ended.names x ≡ known s.names x =
                one.binds.others x (sym (keys x) ∙ e) ∙ t.leaves.same x among in
                subst (UseIs p h (Shared ns.numbers ∷ es) x) (sym same)
                (use_more ns.numbers h x (known s.names x) e (b.used h (kept.reads ending.room ending.on h r) x among)));
            outers =
                all_of_both _ (map (λ m. m.1) ns.numbers) (all_outers es) (these_outer ns.numbers ns.known outer_all.1)
                (outer_later s all kept ending.room ending.on (all_outers es) b.outers);
            scope =
                λ x.
                holds_appended (names_in Tree) sc.names x ∙ ap (λ c. c || holds sc.names x) (sym (keys x))
                ∙ ap (λ c. holds (map (λ m. m.0) ns.numbers) x || c) (b.scope x)
                ∙ sym (holds_appended (map (λ m. m.0) ns.numbers) (all_names es) x);
          };
          has =
              λ small rest h. (
                (
                  vs,
                  f found.found,
                  read_names f ns.numbers,
                  t.typed f ending_found.reads vs agree_found,
                  subst (PatternHas (item_context (program p) (known_uses p f es) vs) Tree (f found.found)) (sym ns.read) one.typed,
                  h.0,
                ),
                (small.0, h.1),
              );
        }
      where
        few_bound : length (found.found ∷ ended.bound) ≤ 33554432
        few_bound =
            let few_here =
            (ended_kept.whole ending_ended.room).numbers.bound_few in let most = ending_ended.room.types in omega arith

        used_so :
            (ns : List (ℕ × ℕ)) (h : ℕ → Ty) (x : ℕ) (c : Bool) → holds (map (λ m. m.0) ns) x ≡ c
            → (holds (map (λ m. m.0) ns) x ≡ true → UseIs p h (Shared ns ∷ es) x (known all.names x))
            → (holds (map (λ m. m.0) ns) x ≡ false → UseIs p h (Shared ns ∷ es) x (known all.names x))
            → UseIs p h (Shared ns ∷ es) x (known all.names x)
        used_so ns h x true e one other = one e
        used_so ns h x false e one other = other e

        use_more :
            (ns : List (ℕ × ℕ)) (h : ℕ → Ty) (x : ℕ) (o : Option NameType) → holds (map (λ m. m.0) ns) x ≡ false → UseIs p h es x o
            → UseIs p h (Shared ns ∷ es) x o
        use_more ns h x None e is = is
        use_more ns h x (Some (One v r)) e is = known_otherwise h ns x (h v) (known_uses p h es x (h v)) e is
        use_more ns h x (Some (Generalised v)) e is = known_otherwise h ns x (h v) (known_uses p h es x (h v)) e is

        these_outer :
            (ns : List (ℕ × ℕ)) → AreKnown ended ns → AllByRecursion (IsOuter all.types) ended.bound
            → AreOuter all (map (λ m. m.1) ns)
        these_outer [] known outer = tt
        these_outer (m ∷ ns) known outer =
            let held = pattern_held p q found.found k begun ended d none m.0 m.1 known.0 in
            let low_m =
            all_at (λ x. x < length ended.types.nodes) ended.bound m.1 (ended_kept.whole ending_ended.room).numbers.bound_there
            held in
            let up = (kept_on ended noted_state all noted_kept all_kept).types in (
              (omega arith, outer_or all.types all.types.given m.1 (all_at (IsOuter all.types) ended.bound m.1 outer held)),
              these_outer ns known.1 outer,
            )

  pub pattern_item_done :
      (f : ℕ → Ty) (at : Place) → Ending f (destructured p q n s)
      → ItemDone l p f (with_names (names_in Tree) sc) es (Destructure at Tree (tree l p n) ∷ []) (destructured p q n s)
  pattern_item_done f at ending =
      let t = found_done l p arena few terms sc es s b n low scoped f (ending_found f ending) in
      let idle : begun.tasks ≡ task.PatternIs q found.found ∷ [] =
      ap (λ (ts : List Task). task.PatternIs q found.found ∷ ts) t.idle in
      let d = done_does l p begun (task.PatternIs q found.found ∷ []) idle (ending_ended f ending).on in
      pattern_from f ending at d.0 d.1
