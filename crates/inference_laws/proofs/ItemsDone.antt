-- The walk over items, where it doesn't end, gives what the rules of items say.
use Rattle.std.proofs.Common.{◌≡◌, ℕ, zero, suc, ◌<◌, ◌≤◌, ◌==◌, Bool, true, false, List, [], ◌∷◌, ◌++◌, length, Option, Some, None, Ok, refl, sym, ◌∙◌, ap, subst, arith, if◌then◌else◌, inr, ⊎_elim}
use Rattle.std.specs.Prelude.{IsTrue, MatchBool}
use Rattle.std.proofs.lemmas.Bool.Decides.{eqb_tells}
use Rattle.fx_base.specs.declared.refusal.Place.{Place}
use Rattle.effect_meaning.specs.declared.core_nodes.TermForm.{TermForm}
use Rattle.effect_meaning.specs.declared.core_nodes.TermForm.TheVariants as form
use Rattle.effect_meaning.specs.declared.core_nodes.TermNode.{TermNode}
use Rattle.effect_meaning.specs.Arena.{Parts, AllMet, IsArena, counts, terms_below, term_needs}
use Rattle.effect_meaning.specs.ArenaTrees.{patterns_of, place_of, program, term_at, term_tree, terms_of, types_of}
use Rattle.effect_meaning.specs.Scoped.{Scope, is_new, term_scoped, with_names}
use Rattle.effect_meaning.specs.Terms.{Define, Evaluate, Item, Program, Term}
use Rattle.type_graph.specs.Graph.{Graph, built_in}
use Rattle.type_terms.specs.TypeTrees.{Ty, unit}
use Rattle.type_terms.specs.Typing.{HasType}
use Rattle.type_terms.specs.Items.{Generalised as GeneralisedTop, ItemsHave, OneType, Top, definition_types, is_function, item_context}
use Rattle.type_terms.specs.WrittenTypes.{Every}
use Rattle.type_readings.specs.Readings.{Reads}
use Rattle.type_readings.specs.WellFormed.{IsOuter, IsOuterOr}
use Rattle.ml_infer.specs.declared.inference.Inference.{Inference}
use Rattle.ml_infer.specs.declared.inference.KnownVariable.{KnownVariable}
use Rattle.ml_infer.specs.declared.inference.NameType.TheVariants.{One, Generalised}
use Rattle.ml_infer.specs.declared.tasks.Task.{Task}
use Rattle.ml_infer.specs.declared.tasks.Task.TheVariants as task
use Rattle.ml_infer.specs.Inference.{Gives, gives, name_noted, taken}
use Rattle.ml_infer.specs.Items.{defined, defined_as, definition_noted, done, given_outer, is_function_at, literal, outer_from_here, term_found, told}
use Rattle.ml_infer.specs.Known.{known}
use Rattle.ml_infer.specs.Tasks.{first_one}
use Rattle.ml_infer.specs.Walk.{acted}
use Rattle.inference_laws.specs.Meanings.{VariablesAgree}
use Rattle.inference_laws.proofs.Kept.{Kept, Has, has_later, kept_here, room_before}
use Rattle.inference_laws.proofs.Fields.{first_one_kept, name_kept}
use Rattle.inference_laws.proofs.GraphLaws.{GraphLaws}
use Rattle.inference_laws.proofs.Steps.{outer_kept, taken_kept}
use Rattle.inference_laws.proofs.Walk.{finished_kept}
use Rattle.inference_laws.proofs.Items.{found_kept, noted_kept}
use Rattle.inference_laws.proofs.Trees.{got_there, term_is_tree, term_met}
use Rattle.inference_laws.proofs.Runs.{left, Does}
use Rattle.inference_laws.proofs.Definitions.{AreSmall, IsSmall}
use Rattle.inference_laws.proofs.Grounds.{Tops, Ending, Follows, TermDone}
use Rattle.inference_laws.proofs.Following.{ground_later}
use Rattle.inference_laws.proofs.Steady.{taken_is}
use Rattle.inference_laws.proofs.TasksDone.{follows_given, ungiven}
use Rattle.inference_laws.proofs.TermsDone.{TermIsRuled}
use Rattle.inference_laws.proofs.Pushing.{finished_does}
use Rattle.inference_laws.proofs.TopNames.{Entry, Shared, Copied, Behind, Leaves, all_names, behind_later, behind_noted, ground_of, known_tops, known_uses, leaves_follows, leaves_kept, leaves_on, scope_of_all, tops_of}

-- a number is itself
pub number_same : (x : ℕ) → (x == x) ≡ true
number_same x = ⊎_elim (λ h. h.0) (λ h. absurd (h.1 refl)) (eqb_tells x x)

-- an outer type is outer or given
pub outer_or : (g : Graph) (ns : List ℕ) (n : ℕ) → IsOuter g n → IsOuterOr g ns n
outer_or g [] n h = h
outer_or g (m ∷ ns) n h = inr (outer_or g ns n h)

-- the trees that the type variables of an item stand for, by what is known of them at its end
pub tree_of : (ℕ → Ty) → Option KnownVariable → Ty
tree_of f None = unit
tree_of f (Some k) = f k.found

abbrev pub chosen : (ℕ → Ty) → Inference → ℕ → Ty
chosen f s v = tree_of f (known s.variables v)

pub chosen_agree : (f : ℕ → Ty) (s : Inference) → VariablesAgree f (chosen f s) s
unfolding tree_of
chosen_agree f s v k is item = ap (tree_of f) is

-- where a part of a walk ends, its end is as that of the whole
pub ends_before : (f : ℕ → Ty) (s e : Inference) → Kept s e → Ending f e → Ending f s
ends_before f s e kept ending = record {
  room = room_before s e kept ending.room;
  on = kept.ended ending.on;
  reads = kept.reads ending.room ending.on f ending.reads;
}

-- the equations of items have a solution in which the types of definitions are small
abbrev pub ItemsFit : Program → List Top → List Item → Type 0
ItemsFit p tops is = (h : ItemsHave p tops is) × Every IsSmall (definition_types p tops is h)

-- something holds of each of two lists
pub every_of_both : {X : Type 0} (P : X → Type 0) (xs ys : List X) → Every P xs → Every P ys → Every P (xs ++ ys)
every_of_both P [] ys h k = k
every_of_both P (x ∷ xs) ys h k = (h.0, every_of_both P xs ys h.1 k)

module _ (l : GraphLaws) (p : Parts) where
  -- tasks that are done leave the rest
  pub does_ends : (rest : List Task) (k : ℕ) (ts : List Task) (s e : Inference) → Does p rest k ts s e → e.tasks ≡ rest
  does_ends rest k [] s e d = ap (λ (x : Inference). x.tasks) (sym d.1) ∙ d.0
  does_ends rest zero (t ∷ ts) s e d = absurd d
  does_ends rest (suc k) (t ∷ ts) s e d = does_ends rest k (d.2 ++ ts) (acted t p (left (ts ++ rest) s)) e d.4

  pub done_does :
      (s : Inference) (ts : List Task) → s.tasks ≡ ts → (done p s).end ≡ None → (k : ℕ) × Does p [] k ts s (done p s)
  done_does s ts is on =
      let d = finished_does p 18446744073709551615 s on in
      (d.0, subst (λ (xs : List Task). Does p [] d.0 xs s (done p s)) is d.1)

  -- an item is done: what is known behind it, and the solution of its equations before those of the others
  pub record ItemDone (f : ℕ → Ty) (after : Scope) (es : List Entry) (i : List Item) (e : Inference) : Type 0 where
    pub entries : List Entry
    pub behind : Behind p after entries e
    pub has :
        AreSmall f e → (rest : List Item) → ItemsFit (program p) (tops_of f entries) rest
        → ItemsFit (program p) (tops_of f es) (i ++ rest)

  abbrev pub tree : ℕ → Term
  tree n = term_at (terms_of p) n

  -- a term is walked over, between items: whatever reads the types behind it, the term has the type that was found
  pub record Found (es : List Entry) (s : Inference) (n : ℕ) (g : Gives) : Type 0 where
    pub leaves : Leaves p (all_names es) s g.state
    pub idle : g.state.tasks ≡ []
    pub typed :
        (f : ℕ → Ty) → Reads f g.state.types → (vs : ℕ → Ty) → VariablesAgree f vs g.state
        → HasType (item_context (program p) (known_uses p f es) vs) (tree n) (f g.found)

  module _ (arena : IsArena p) (few : length p.terms ≤ 4294967295) where
    -- a term is told to be a function literal where its tree is one
    literal_so :
        (steps n : ℕ) (at : Place) (f : TermForm) → n < suc steps → n < length p.terms
        → AllMet (terms_below (counts p) n) (term_needs f)
        → ((a : ℕ) → a < steps → a < length p.terms → is_function_at steps p a ≡ is_function (tree a))
        → told (literal f) (is_function_at steps p) ≡ is_function
        (term_tree (types_of p) (patterns_of p) (place_of at) (terms_of p) f)
    literal_so steps n at (form.Function x body) low there met others = refl
    literal_so steps n at (form.Annotated a w) low there met others = let below = met.0 in others a (omega arith) (omega arith)
    literal_so steps n at _ low there met others = refl

    function_so : (steps n : ℕ) → n < steps → n < length p.terms → is_function_at steps p n ≡ is_function (tree n)
    unfolding is_function_at
    function_so zero n low there = absurd (omega arith)
    function_so (suc steps) n low there =
        let got = got_there p.terms n there in
        let node = got.0 in
        ap (λ (o : Option TermNode). told (elim o [ None ↦ Ok false | Some x ↦ literal x.form ]) (is_function_at steps p)) got.1
        ∙ literal_so steps n node.place node.form low there (term_met p arena n node got.1) (function_so steps)
        ∙ ap is_function (sym (term_is_tree p arena n node got.1))

    function_is : (n : ℕ) → n < length p.terms → is_function_at 4294967295 p n ≡ is_function (tree n)
    function_is n low = function_so 4294967295 n (omega arith) low

  module _
      (arena : IsArena p) (few : length p.terms ≤ 4294967295)
      (terms : (f : ℕ → Ty) → Reads f built_in → (tops : Tops) (vs : ℕ → Ty) (n : ℕ) → n < length p.terms → TermIsRuled p f tops vs
      n) where
    module _
        (sc : Scope) (es : List Entry) (s : Inference) (b : Behind p sc es s) (n : ℕ) (low : n < length p.terms)
        (scoped : IsTrue (term_scoped sc (tree n))) where
      abbrev begun : Inference
      begun = first_one (task.Term n) s

      abbrev ended : Inference
      ended = done p begun

      begun_kept : Kept s begun
      begun_kept = first_one_kept s s (task.Term n) b.here (λ room. tt)

      ended_here : Kept ended ended
      ended_here = kept_here begun ended (finished_kept l p 18446744073709551615 begun begun (kept_here s begun begun_kept))

      begun_follows : Follows p (all_names es) s begun
      begun_follows = follows_given l p (all_names es) s (task.Term n ∷ s.tasks) s.given begun_kept

      -- by each reading
      term_now :
          (f vs : ℕ → Ty) (k : ℕ) → Does p [] k (task.Term n ∷ []) begun ended → Ending f ended
          → TermDone p f (known_tops p f es) [] vs (tree n) begun ended
      term_now f vs k d ending =
          let ending_begun =
          ends_before f begun ended (finished_kept l p 18446744073709551615 begun begun (kept_here s begun begun_kept)) ending in
          let reads = begun_kept.reads ending_begun.room ending_begun.on f ending_begun.reads in
          let ground =
          ground_later p f (known_tops p f es) s begun [] ending_begun.room ending_begun.on (ground_of p sc es f s b reads)
          begun_follows in
          terms f (b.built f reads) (known_tops p f es) vs n low sc [] [] k begun ended d ending ground
          (scope_of_all p sc es f s b) scoped

      found_from :
          (f : ℕ → Ty) (k : ℕ) → Does p [] k (task.Term n ∷ []) begun ended → Ending f ended → Found es s n (taken ended)
      found_from f k d ending =
          let one = term_now f (chosen f ended) k d ending in
          let g = gives one.value (record ended { given = s.given }) in
          let kept = ungiven l p ended ended one.value s.given one.gives ended_here in
          let is : Found es s n g = record {
            leaves =
                leaves_on p (all_names es) s ended g.state
                (leaves_on p (all_names es) s begun ended (leaves_follows p (all_names es) s begun begun_follows)
                (leaves_follows p (all_names es) begun ended one.follows))
                (leaves_kept p (all_names es) ended g.state kept.0 refl refl);
            idle = does_ends [] k (task.Term n ∷ []) begun ended d;
            typed =
                λ h reads vs agree.
                let other = term_now h vs k d (record { room = ending.room; on = ending.on; reads = reads }) in
                let first_gives = one.gives in
                let other_gives = other.gives in
                let same : other.value ≡ one.value = cc in
                subst (λ (m : ℕ). HasType (item_context (program p) (known_uses p h es) vs) (tree n) (h m)) same
                (other.typed agree);
          } in
          subst (Found es s n) (sym (taken_is ended one.value s.given one.gives)) is

      abbrev pub found : Gives
      found = term_found p n s

      pub found_done : (f : ℕ → Ty) → Ending f found.state → Found es s n found
      found_done f ending =
          let ending_ended = ends_before f ended found.state (taken_kept l ended ended ended_here).0 ending in
          let d = done_does begun (task.Term n ∷ []) (ap (λ (xs : List Task). task.Term n ∷ xs) b.idle) ending_ended.on in
          found_from f d.0 d.1 ending_ended

      -- a term without a name
      pub evaluate_done : (f : ℕ → Ty) → Ending f found.state → ItemDone f sc es (Evaluate (tree n) ∷ []) found.state
      evaluate_done f ending =
          let t = found_done f ending in
          record {
            entries = es;
            behind = behind_later p sc es s found.state b t.leaves ending.room ending.on t.idle;
            has =
                λ small rest h. (
                  (
                    chosen f found.state,
                    f found.found,
                    t.typed f ending.reads (chosen f found.state) (chosen_agree f found.state),
                    h.0,
                  ),
                  h.1,
                );
          }

      -- a name for it
      module _ (x : ℕ) where
        abbrev noted_state : Inference
        noted_state = definition_noted found.found (given_outer found.state)

        found_here : Kept found.state found.state × Has found.state found.found
        found_here = let k = found_kept l p s s n b.here in (kept_here s found.state k.0, k.1)

        noted_here : Kept found.state noted_state × Has noted_state found.found
        noted_here = noted_kept l p found.state found.state found.found found_here.0 found_here.1

        noted_behind : (f : ℕ → Ty) → Ending f noted_state → Behind p sc es noted_state
        noted_behind f ending =
            let t = found_done f (ends_before f found.state noted_state noted_here.0 ending) in
            let leaves =
            leaves_on p (all_names es) s found.state noted_state t.leaves
            (leaves_kept p (all_names es) found.state noted_state noted_here.0 refl refl) in
            behind_later p sc es s noted_state b leaves ending.room ending.on t.idle

        noted_typed :
            (f g : ℕ → Ty) → Ending f noted_state → Reads g noted_state.types
            → HasType (item_context (program p) (known_uses p g es) (chosen g found.state)) (tree n) (g found.found)
        noted_typed f g ending reads =
            let t = found_done f (ends_before f found.state noted_state noted_here.0 ending) in
            t.typed g (noted_here.0.reads ending.room ending.on g reads) (chosen g found.state) (chosen_agree g found.state)

        define_so :
            (f : ℕ → Ty) (is : Bool) → is_function (tree n) ≡ is → IsTrue (is_new sc x)
            → Ending f (defined_as is x found.found noted_state)
            → ItemDone f (with_names (x ∷ []) sc) es (Define x (tree n) ∷ []) (defined_as is x found.found noted_state)
        define_so f true e new ending =
            let here = kept_here found.state noted_state noted_here.0 in
            let kept = name_kept noted_state noted_state x (Generalised found.found) here noted_here.1 tt in
            let ending_noted = ends_before f noted_state (name_noted x (Generalised found.found) noted_state) kept ending in
            record {
              entries = Copied x (tree n) ∷ es;
              behind =
                  behind_noted p sc es x (Generalised found.found) (Copied x (tree n)) noted_state (noted_behind f ending_noted)
                  kept refl
                  (λ g reads.
                  subst
                  (λ c. MatchBool c
                  ((vs : ℕ → Ty) × HasType (item_context (program p) (known_uses p g es) vs) (tree n) (g found.found))
                  (known_uses p g es x (g found.found)))
                  (sym (number_same x)) (chosen g found.state, noted_typed f g ending_noted reads))
                  (λ g y t apart h.
                  subst
                  (λ c. MatchBool c ((vs : ℕ → Ty) × HasType (item_context (program p) (known_uses p g es) vs) (tree n) t)
                  (known_uses p g es y t))
                  (sym apart) h)
                  tt;
              has =
                  λ small rest h.
                  let more =
                  subst
                  (λ c. ItemsFit (program p)
                  ((if c then GeneralisedTop x (tree n) else OneType ((x, f found.found) ∷ [])) ∷ tops_of f es) rest)
                  (sym e) h in (
                    (chosen f found.state, f found.found, noted_typed f f ending_noted ending_noted.reads, more.0),
                    (small.0, more.1),
                  );
            }
        define_so f false e new ending =
            let here = kept_here found.state noted_state noted_here.0 in
            let v = found.found in
            let w = outer_from_here (v ∷ []) noted_state in
            let w_kept =
            outer_kept l noted_state noted_state (v ∷ []) here (λ room. (noted_here.1 room, tt)) (λ room. omega arith) in
            let w_here = kept_here noted_state w w_kept in
            let w_has : Has w v = has_later noted_state w v w_kept noted_here.1 in
            let kept = name_kept w w x (One v w.pattern) w_here w_has (omega arith) in
            let ending_w = ends_before f w (name_noted x (One v w.pattern) w) kept ending in
            let ending_noted = ends_before f noted_state w w_kept ending_w in
            let behind_w =
            behind_later p sc es noted_state w (noted_behind f ending_noted)
            (leaves_kept p (all_names es) noted_state w w_kept refl refl)
            ending_w.room ending_w.on (noted_behind f ending_noted).idle in
            let outer =
            l.outer_made (v ∷ []) noted_state.types (here.whole ending_noted.room).types.well (noted_here.1 ending_noted.room, tt)
            (omega arith) in
            record {
              entries = Shared ((x, v) ∷ []) ∷ es;
              behind =
                  behind_noted p sc es x (One v w.pattern) (Shared ((x, v) ∷ [])) w behind_w kept refl
                  (λ g reads. subst (λ c. MatchBool c (g v ≡ g v) (known_uses p g es x (g v))) (sym (number_same x)) refl)
                  (λ g y t apart h. subst (λ c. MatchBool c (t ≡ g v) (known_uses p g es y t)) (sym apart) h)
                  ((w_has ending_w.room, outer_or w.types w.types.given v outer.0), tt);
              has =
                  λ small rest h.
                  let more =
                  subst
                  (λ c. ItemsFit (program p)
                  ((if c then GeneralisedTop x (tree n) else OneType ((x, f v) ∷ [])) ∷ tops_of f es) rest)
                  (sym e) h in (
                    (chosen f found.state, f v, noted_typed f f ending_noted ending_noted.reads, more.0),
                    (small.0, more.1),
                  );
            }

        pub define_done :
            (f : ℕ → Ty) → IsTrue (is_new sc x) → Ending f (defined p x n s)
            → ItemDone f (with_names (x ∷ []) sc) es (Define x (tree n) ∷ []) (defined p x n s)
        define_done f new ending =
            define_so f (is_function_at 4294967295 p n) (sym (function_is arena few n low)) new ending
