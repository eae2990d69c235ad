-- The walk over a pattern gives what the rules of patterns say.
use Rattle.std.proofs.Common.{◌≡◌, ℕ, zero, suc, ◌<◌, List, [], ◌∷◌, ◌++◌, length, map, Option, Some, None, ◌&&◌, refl, sym, ◌∙◌, ap, subst, slice_get, not, arith}
use Rattle.std.specs.Prelude.{IsTrue}
use Rattle.std.specs.List.{AllByRecursion}
use Rattle.fx_base.specs.declared.refusal.Place.{Place}
use Rattle.effect_meaning.specs.declared.core_nodes.Constructor.{Constructor}
use Rattle.effect_meaning.specs.declared.core_nodes.Constructor.TheVariants as constructor
use Rattle.effect_meaning.specs.declared.core_nodes.FieldPart.{FieldPart}
use Rattle.effect_meaning.specs.declared.core_nodes.PatternForm.{PatternForm}
use Rattle.effect_meaning.specs.declared.core_nodes.PatternForm.TheVariants as pat
use Rattle.effect_meaning.specs.declared.core_tables.FieldRow.{FieldRow}
use Rattle.effect_meaning.specs.Arena.{Parts, IsArena, AllMet, APattern, Met, constructor_need, counts, pattern_needs, patterns_below, record_needs}
use Rattle.effect_meaning.specs.ArenaTrees.{pattern_at, pattern_tree, patterns_at, patterns_of, type_at, types_of}
use Rattle.effect_meaning.specs.Scoped.{all_sides_agree, differ, names_in, same, sides_agree}
use Rattle.effect_meaning.specs.Terms.{Pattern, RecordPat, OrPat, AliasPat, AnnotPat}
use Rattle.type_terms.specs.TypeTrees.{Ty}
use Rattle.type_terms.specs.Contexts.{Names}
use Rattle.type_graph.specs.Graph.{built_in}
use Rattle.type_readings.specs.Readings.{Reads}
use Rattle.ml_infer.specs.declared.inference.End.TheVariants as ends
use Rattle.ml_infer.specs.declared.inference.Inference.{Inference}
use Rattle.ml_infer.specs.declared.tasks.Task.{Task}
use Rattle.ml_infer.specs.declared.tasks.Task.TheVariants as task
use Rattle.ml_infer.specs.Constructors.{constructed, field_owner, unhandled}
use Rattle.ml_infer.specs.Inference.{pattern_place, refused}
use Rattle.ml_infer.specs.Patterns.{joined_pattern, pattern_node, pattern_of, record_pattern}
use Rattle.ml_infer.specs.Tasks.{first}
use Rattle.ml_infer.specs.Walk.{acted}
use Rattle.inference_laws.specs.Whole.{HasRoom}
use Rattle.inference_laws.specs.Meanings.{VariablesAgree, ReadsAreMeant, RowsAreBelow}
use Rattle.inference_laws.proofs.Booleans.{both_hold}
use Rattle.inference_laws.proofs.Kept.{Kept, Has, has_later, kept_here}
use Rattle.inference_laws.proofs.GraphLaws.{GraphLaws}
use Rattle.inference_laws.proofs.Trees.{got_there, pattern_is_tree, pattern_met}
use Rattle.inference_laws.proofs.Runs.{left, Does, begins, does_tasks}
use Rattle.inference_laws.proofs.Grounds.{PatternIsDone, Tops, standing}
use Rattle.inference_laws.proofs.Doing.{does_kept, rest_kept}
use Rattle.inference_laws.specs.Premises.{EffectsAreEffects}
use Rattle.inference_laws.proofs.Steady.{given_behind}
use Rattle.inference_laws.proofs.BoundNames.{bound_later, keys_named, keys_same, same_bound}
use Rattle.inference_laws.proofs.PatternRuns.{Goes, agree_end, alias_end, annotated_end, goes_begun, halves, pattern_is_binds}
use Rattle.inference_laws.proofs.PatternForms.{is_told, not_ended, of_equal}
use Rattle.inference_laws.proofs.PatternTold.{IsDone, Opens, ToldOf, any_told, argument_told, constant_told, fields_pattern_told, name_told, no_argument_told, tuple_told}

module _ (l : GraphLaws) (p : Parts) (arena : IsArena p) (below : RowsAreBelow p) (effects : EffectsAreEffects p) (tops : Tops)
    (locals : Names)
    (vs f : ℕ → Ty) (built : Reads f built_in) where
  abbrev Gives : Pattern → List ℕ → Inference → Type 0
  Gives = ToldOf l p arena below effects tops locals vs f built

  abbrev Done : ℕ → Type 0
  Done = IsDone l p arena below effects tops locals vs f built

  abbrev At : ℕ → Pattern
  At q = pattern_at (patterns_of p) q

  -- what a pattern needs is there, and the walk over its parts is known
  con_met :
      (q : ℕ) (con : Constructor) → Met (patterns_below (counts p) q) (constructor_need con)
      → Met (counts p) (constructor_need con)
  con_met q (constructor.Variant n) met = met
  con_met q (constructor.Exception n) met = met
  con_met q (constructor.Effect n) met = met

  each_done :
      (q : ℕ) (qs : List ℕ) → ((a : ℕ) → a < q → Done a) → AllMet (patterns_below (counts p) q) (map APattern qs)
      → AllByRecursion Done qs
  each_done q [] done met = tt
  each_done q (a ∷ qs) done met = (done a met.0, each_done q qs done met.1)

  fields_done :
      (q : ℕ) (fs : List FieldPart) → ((a : ℕ) → a < q → Done a) → AllMet (patterns_below (counts p) q) (record_needs APattern fs)
      → AllByRecursion (λ h. Done h.part) fs
  fields_done q [] done met = tt
  fields_done q (h ∷ fs) done met = (done h.part met.1.0, fields_done q fs done met.1.1)

  fields_met :
      (q : ℕ) (fs : List FieldPart) → q < length p.patterns → AllMet (patterns_below (counts p) q) (record_needs APattern fs)
      → AllMet (counts p) (record_needs APattern fs)
  fields_met q [] low met = tt
  fields_met q (h ∷ fs) low met = (met.0, (let part = met.1.0 in omega arith, fields_met q fs low met.1.1))

  module _ (x e : Inference) (g : Goes p f vs x e) where
    abbrev Open : Inference → Type 0
    Open = Opens l p arena below effects tops locals vs f built x e g

    -- an or-pattern
    or_told :
        (a b : ℕ) (at : Place) → Done a → Done b → IsTrue (sides_agree (OrPat (At a) (At b)))
        → Open (first (task.Pattern a ∷ task.Pattern b ∷ task.Agree at ∷ []) x) → Gives (OrPat (At a) (At b)) x.given e
    or_told a b at done_a done_b sides opens =
        let A = At a in
        let B = At b in
        let three = both_hold (sides_agree A && sides_agree B && differ (names_in B)) (same (names_in A) (names_in B)) sides in
        let two = both_hold (sides_agree A && sides_agree B) (differ (names_in B)) three.0 in
        let one = both_hold (sides_agree A) (sides_agree B) two.0 in
        let firsts : List Task = task.Pattern a ∷ [] in
        let bs : List Task = task.Pattern b ∷ [] in
        let agree : List Task = task.Agree at ∷ [] in
        let s1 : Inference = first (firsts ++ bs ++ agree) x in
        let o = opens (firsts ++ bs ++ agree) refl in
        let part = halves l p arena below f vs x.tasks firsts (bs ++ agree) o.0 s1 e (tt, tt) (tt, (tt, tt)) o.1 o.2 in
        let m = part.middle in
        let behind = halves l p arena below f vs x.tasks bs agree part.other_steps m e (tt, tt) (tt, tt) part.other
        part.goes_other in
        let n = behind.middle in
        let first_told = done_a (bs ++ agree ++ x.tasks) part.first_steps s1 m part.first part.goes_first one.0 in
        let other_told = done_b (agree ++ x.tasks) behind.first_steps m n behind.first behind.goes_first one.1 in
        let gave : n.given ≡ other_told.value ∷ first_told.value ∷ x.given =
        given_behind other_told.value n.given m.given m.given (first_told.value ∷ x.given) other_told.gives refl first_told.gives in
        let end = agree_end l p arena below f vs x.tasks behind.other_steps n e behind.goes_other at other_told.value
        first_told.value x.given
        behind.other gave in
        let bound_first = bound_later f p m e part.steady first_told.names first_told.bound in
        let bound_other = bound_later f p n e behind.steady other_told.names other_told.bound in
        record {
          value = first_told.value;
          names = first_told.names;
          gives = end.gives;
          there = has_later m e first_told.value part.kept_other first_told.there;
          typed = (
            other_told.names,
            first_told.typed,
            of_equal l p arena below tops locals vs f B other_told.value first_told.value other_told.names end.equal
                other_told.typed,
            same_bound f e first_told.names other_told.names bound_first bound_other
                (keys_same first_told.names other_told.names (names_in A) (names_in B) first_told.keys other_told.keys three.1),
          );
          bound = bound_first;
          keys = first_told.keys;
        }

    -- a name of a pattern's whole value
    alias_told :
        (a y : ℕ) (at : Place) → Done a → IsTrue (sides_agree (At a)) → Open (first (task.Pattern a ∷ task.Alias at y ∷ []) x)
        → Gives (AliasPat (At a) y) x.given e
    alias_told a y at done sides opens =
        let one : List Task = task.Pattern a ∷ [] in
        let two : List Task = task.Alias at y ∷ [] in
        let s1 : Inference = first (one ++ two) x in
        let o = opens (one ++ two) refl in
        let part = halves l p arena below f vs x.tasks one two o.0 s1 e (tt, tt) (tt, tt) o.1 o.2 in
        let m = part.middle in
        let told = done (two ++ x.tasks) part.first_steps s1 m part.first part.goes_first sides in
        let end = alias_end l p arena below f vs x.tasks part.other_steps m e part.goes_other at y told.value x.given part.other
        told.gives in
        record {
          value = told.value;
          names = (y, f told.value) ∷ told.names;
          gives = end.1;
          there = has_later m e told.value part.kept_other told.there;
          typed = (told.names, refl {a = (y, f told.value) ∷ told.names}, told.typed);
          bound = (end.0, bound_later f p m e part.steady told.names told.bound);
          keys = keys_named told.names (names_in (At a)) y (f told.value) told.keys;
        }

    -- a pattern whose type is written
    annotated_told :
        (a w : ℕ) (at : Place) → w < length p.types → Done a → IsTrue (sides_agree (At a))
        → Open (first (task.Pattern a ∷ task.Annotated at w ∷ []) x) → Gives (AnnotPat (At a) (type_at (types_of p) w)) x.given e
    annotated_told a w at low done sides opens =
        let one : List Task = task.Pattern a ∷ [] in
        let two : List Task = task.Annotated at w ∷ [] in
        let s1 : Inference = first (one ++ two) x in
        let o = opens (one ++ two) refl in
        let part = halves l p arena below f vs x.tasks one two o.0 s1 e (tt, tt) (tt, tt) o.1 o.2 in
        let m = part.middle in
        let told = done (two ++ x.tasks) part.first_steps s1 m part.first part.goes_first sides in
        let end = annotated_end l p arena below f vs x.tasks part.other_steps m e part.goes_other at w told.value x.given low
        part.other told.gives in
        record {
          value = told.value;
          names = told.names;
          gives = end.1;
          there = has_later m e told.value part.kept_other told.there;
          typed = (end.0, told.typed);
          bound = bound_later f p m e part.steady told.names told.bound;
          keys = told.keys;
        }

    -- a record pattern
    owner_there : (n : ℕ) → n < length p.field_rows → field_owner p n ≡ None → ⊥
    owner_there n low is = owner_so (slice_get p.field_rows n) (got_there p.field_rows n low).0 (got_there p.field_rows n low).1 is
      where
        owner_so :
            (o : Option FieldRow) (row : FieldRow) → o ≡ Some row
            → elim o as (λ r. Option ℕ) [ None ↦ None | Some r ↦ Some r.of_type ] ≡ None → ⊥
        owner_so None row is none = absurd (cc)
        owner_so (Some r) row is none = absurd (cc)

    record_told :
        (fs : List FieldPart) (at : Place) → AllMet (counts p) (record_needs APattern fs) → AllByRecursion (λ h. Done h.part) fs
        → IsTrue (all_sides_agree (patterns_at (patterns_of p) (map (λ h. h.part) fs))) → Open (record_pattern fs p at x)
        → Gives (RecordPat (map (λ h. h.field) fs) (patterns_at (patterns_of p) (map (λ h. h.part) fs))) x.given e
    record_told [] at met done sides opens =
        let o = opens [] refl in
        let s1 = refused at x in
        let kept = does_kept l p x.tasks o.0 [] s1 s1 e o.1 o.2.here in
        absurd (not_ended x.end (ends.Fault at) (kept.ended g.on))
    record_told (h ∷ fs) at met done sides opens =
        fields_pattern_told l p arena below effects tops locals vs f built x e g (h ∷ fs) at (field_owner p h.field)
        (owner_there h.field met.0)
        done sides opens

    -- a pattern of any form
    form_told :
        (q : ℕ) (h : PatternForm) (at : Place) → AllMet (patterns_below (counts p) q) (pattern_needs h) → q < length p.patterns
        → ((a : ℕ) → a < q → Done a) → IsTrue (sides_agree (pattern_tree (types_of p) (patterns_of p) h))
        → Open (pattern_of h p at x)
        → Gives (pattern_tree (types_of p) (patterns_of p) h) x.given e
    unfolding pattern_of joined_pattern
    form_told q pat.Any at met low done sides opens = any_told l p arena below effects tops locals vs f built x e g opens
    form_told q (pat.Name y) at met low done sides opens = name_told l p arena below effects tops locals vs f built x e g y opens
    form_told q (pat.Constant k) at met low done sides opens = constant_told l p arena below effects tops locals vs f built x e g
        k opens
    form_told q (pat.Tuple qs) at met low done sides opens =
        tuple_told l p arena below effects tops locals vs f built x e g qs (each_done q qs done met) sides opens
    form_told q (pat.Constructor con) at met low done sides opens =
        no_argument_told l p arena below effects tops locals vs f built x e g con at (con_met q con met.0)
        (constructed p con at x).value.argument
        (not (unhandled con)) refl opens
    form_told q (pat.Construct con a) at met low done sides opens =
        argument_told l p arena below effects tops locals vs f built x e g con at (con_met q con met.0) a (done a met.1.0) sides
        (constructed p con at x).value.argument refl opens
    form_told q (pat.Record fs) at met low done sides opens =
        record_told fs at (fields_met q fs low met) (fields_done q fs done met) sides opens
    form_told q (pat.Or a b) at met low done sides opens =
        or_told a b (pattern_place p b x) (done a met.0) (done b met.1.0) sides opens
    form_told q (pat.Alias a y) at met low done sides opens = alias_told a y at (done a met.0) sides opens
    form_told q (pat.Annotated a w) at met low done sides opens = annotated_told a w at met.1.0 (done a met.0) sides opens

  -- the walk over a pattern, by its number
  node_told : (q : ℕ) → q < length p.patterns → ((a : ℕ) → a < q → Done a) → Done q
  unfolding acted
  node_told q low done rest k s e d g sides =
      let got = got_there p.patterns q low in
      let node = got.0 in
      let x = left rest s in
      let is : acted (task.Pattern q) p x ≡ pattern_of node.form p node.place x = ap (λ o. pattern_node o p x) got.1 in
      let tree = pattern_is_tree p arena q node got.1 in
      let has = does_tasks p rest k (task.Pattern q ∷ []) s e d in
      let kept = rest_kept l p s s g.here (task.Pattern q) rest has in
      let gx : Goes p f vs x e = record {
        here = kept_here s x kept;
        meant = g.meant;
        room = g.room;
        on = g.on;
        reads = g.reads;
        agree = g.agree;
      } in
      let opens : Opens l p arena below effects tops locals vs f built x e gx (pattern_of node.form p node.place x) = λ new pushed.
      let b = begins p rest k (task.Pattern q) new s e d (ap (λ (y : Inference). y.tasks) is ∙ pushed) in
      let g1 = goes_begun l p arena below f vs rest k (task.Pattern q) new s e tt d b g in
      (b.steps, subst (λ y. Does p rest b.steps new y e) is b.others, subst (λ y. Goes p f vs y e) is g1) in
      let told = form_told x e gx q node.form node.place (pattern_met p arena q node got.1) low done
      (subst (λ (t : Pattern). IsTrue (sides_agree t)) tree sides) opens in
      subst (λ t. Gives t s.given e) (sym tree) told

  below_told : (n q : ℕ) → q < n → q < length p.patterns → Done q
  below_told zero q less low = absurd (omega arith)
  below_told (suc n) q less low = node_told q low (λ a lt. below_told n a (omega arith) (omega arith))

  told_at : (q : ℕ) → q < length p.patterns → Done q
  told_at q low = below_told (suc q) q (omega arith) low

  -- the walk over a pattern gives what the rules of patterns say
  module _ (q : ℕ) (low : q < length p.patterns) (rest : List Task) (k : ℕ) (s e : Inference) where
    pub pattern_is_done :
        (t : ℕ) → Has s t → Does p rest k (task.PatternIs q t ∷ []) s e → Kept s s → HasRoom e.types → e.end ≡ None
        → Reads f e.types
        → ReadsAreMeant p s → VariablesAgree f vs e → IsTrue (sides_agree (At q))
        → PatternIsDone p f (standing p tops locals vs) (At q) t s e
    pattern_is_done t has d here room on reads meant agree sides =
        let held = is_told l p arena below tops locals vs f q t (told_at q low) sides rest k s e d
        (record { here = here; meant = meant; room = room; on = on; reads = reads; agree = agree }) has in
        record {
          names = held.names;
          gives = held.gives;
          binds = pattern_is_binds l p arena below q t rest k s e here d sides;
          typed = held.typed;
          bound = held.bound;
          keys = held.keys;
        }
