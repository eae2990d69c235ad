-- The walk over each term gives what the rules of terms say.
use Rattle.std.proofs.Common.{◌≡◌, ℕ, zero, suc, ◌<◌, List, [], ◌∷◌, length, map, Some, sym, subst, arith, slice_get}
use Rattle.std.specs.List.{AllByRecursion}
use Rattle.std.specs.Prelude.{flat_map}
use Rattle.fx_base.specs.declared.refusal.Place.{Place}
use Rattle.effect_meaning.specs.declared.core_nodes.FieldPart.{FieldPart}
use Rattle.effect_meaning.specs.declared.core_nodes.TermForm.{TermForm}
use Rattle.effect_meaning.specs.declared.core_nodes.TermForm.TheVariants as form
use Rattle.effect_meaning.specs.Arena.{Parts, IsArena, ATerm, AllMet, clause_needs, counts, record_needs, term_needs, terms_below}
use Rattle.effect_meaning.specs.ArenaTrees.{patterns_of, place_of, term_tree, terms_of, types_of}
use Rattle.type_terms.specs.TypeTrees.{Ty}
use Rattle.type_graph.specs.Graph.{built_in}
use Rattle.type_readings.specs.Readings.{Reads}
use Rattle.inference_laws.specs.Meanings.{RowsAreBelow}
use Rattle.inference_laws.specs.Premises.{EffectsAreEffects}
use Rattle.inference_laws.proofs.GraphLaws.{GraphLaws}
use Rattle.inference_laws.proofs.Trees.{got_there, term_is_tree, term_met}
use Rattle.inference_laws.proofs.Grounds.{Tops}
use Rattle.inference_laws.proofs.PatternsDone.{pattern_is_done}
use Rattle.inference_laws.proofs.Opening.{met_parts}
use Rattle.inference_laws.proofs.TermsDone.{FormIsRuled, PatternIsRuled, TermIsRuled, apply_ruled}
use Rattle.inference_laws.proofs.PlainTermsDone.{annotated_ruled, constant_ruled, function_ruled, if_ruled, let_ruled, sequence_ruled}
use Rattle.inference_laws.proofs.NamesDone.{name_ruled}
use Rattle.inference_laws.proofs.DataTermsDone.{array_ruled, primitive_ruled, tuple_ruled}
use Rattle.inference_laws.proofs.ConstructedTermsDone.{construct_ruled, constructor_ruled, field_ruled, set_field_ruled}
use Rattle.inference_laws.proofs.RecordTermsDone.{record_ruled}
use Rattle.inference_laws.proofs.AnswerRules.{effect_answers, effect_leads}
use Rattle.inference_laws.proofs.HandlerClauses.{EffectLaws}
use Rattle.inference_laws.proofs.HandleDone.{handle_ruled, handler_needs}
use Rattle.inference_laws.proofs.ClausesDone.{catch_ruled, clauses_ruled, match_ruled}
use Rattle.inference_laws.proofs.GroupsDone.{functions_ruled, let_rec_ruled}

module _
    (l : GraphLaws) (p : Parts) (arena : IsArena p) (below : RowsAreBelow p) (effects : EffectsAreEffects p)
    (f : ℕ → Ty) (tops : Tops) (built : Reads f built_in) where
  effect_laws : EffectLaws p
  effect_laws = record {
    leads = λ s0 s kept at n. effect_leads l p arena below effects s0 s kept at n;
    answers = λ s0 s kept at n. effect_answers l p arena below effects s0 s kept at n;
  }

  -- each pattern
  pub pattern_ruled : (q : ℕ) → q < length p.patterns → PatternIsRuled p f tops q
  pattern_ruled q low vs names rest k t s e d kept has ending meant agree sides =
      pattern_is_done l p arena below effects tops names vs f built q low rest k s e t has d kept ending.room ending.on ending.reads meant agree
      sides

  module _ (vs : ℕ → Ty) where
    abbrev Ruled : ℕ → Type 0
    Ruled n = TermIsRuled p f tops vs n

    parts_ruled :
        (n : ℕ) → ((m : ℕ) → m < n → Ruled m) → (ns : List ℕ) → AllMet (terms_below (counts p) n) (map ATerm ns)
        → AllByRecursion Ruled ns
    parts_ruled n terms [] met = tt
    parts_ruled n terms (m ∷ ns) met = (terms m met.0, parts_ruled n terms ns met.1)

    fields_ruled :
        (n : ℕ) → ((m : ℕ) → m < n → Ruled m) → (fs : List FieldPart) → AllMet (terms_below (counts p) n) (record_needs ATerm fs)
        → AllByRecursion (λ (x : FieldPart). Ruled x.part) fs
    fields_ruled n terms [] met = tt
    fields_ruled n terms (x ∷ fs) met = (terms x.part met.1.0, fields_ruled n terms fs met.1.1)

    -- each form, where the terms before it are shown
    form_ruled :
        (n : ℕ) (at : Place) (form : TermForm) → slice_get p.terms n ≡ Some (record { place = at; form = form })
        → ((ws : ℕ → Ty) (m : ℕ) → m < n → TermIsRuled p f tops ws m) → ((m : ℕ) → m < n → Ruled m)
        → AllMet (terms_below (counts p) n) (term_needs form)
        → FormIsRuled l p f tops vs n (record { place = at; form = form })
        (term_tree (types_of p) (patterns_of p) (place_of at) (terms_of p) form)
    form_ruled n at (form.Name x) is all terms met = name_ruled l p f tops vs n at x is
    form_ruled n at (form.Constant c) is all terms met = constant_ruled l p f tops vs n at c is built
    form_ruled n at (form.Function x body) is all terms met = function_ruled l p f tops vs n at x body is (terms body met.0)
    form_ruled n at (form.Apply fn a) is all terms met = apply_ruled l p f tops vs n at fn a is (terms fn met.0) (terms a met.1.0)
    form_ruled n at (form.Let x a body) is all terms met =
        let_ruled l p f tops vs n at x a body is (terms a met.0) (terms body met.1.0)
    form_ruled n at (form.LetRec fs body) is all terms met =
        let_rec_ruled l p arena f tops vs n at fs body is (functions_ruled l p arena f tops vs n terms fs met.1) (terms body met.0)
    form_ruled n at (form.Sequence a b) is all terms met =
        sequence_ruled l p f tops vs n at a b is (terms a met.0) (terms b met.1.0)
    form_ruled n at (form.If test a b) is all terms met =
        if_ruled l p f tops vs n at test a b is built (terms test met.0) (terms a met.1.0) (terms b met.1.1.0)
    form_ruled n at (form.Match a cs) is all terms met =
        match_ruled l p f built tops vs n at a cs is (terms a met.0)
        (clauses_ruled l p f built tops vs n terms pattern_ruled cs met.1)
    form_ruled n at (form.Tuple ns) is all terms met = tuple_ruled l p f tops vs n at ns is (parts_ruled n terms ns met)
    form_ruled n at (form.Constructor con) is all terms met = constructor_ruled l p f tops vs arena below effects built n at con is
    form_ruled n at (form.Construct con a) is all terms met =
        construct_ruled l p f tops vs arena below effects built n at con a is (terms a met.1.0)
    form_ruled n at (form.Record fs) is all terms met =
        record_ruled l p f tops vs arena below n at fs is (fields_ruled n terms fs met)
    form_ruled n at (form.Array ns) is all terms met = array_ruled l p f tops vs n at ns is (parts_ruled n terms ns met)
    form_ruled n at (form.Field field a) is all terms met = field_ruled l p f tops vs arena below n at field a is (terms a met.1.0)
    form_ruled n at (form.SetField field a b) is all terms met =
        set_field_ruled l p f tops vs arena below n at field a b is built (terms a met.1.0) (terms b met.1.1.0)
    form_ruled n at (form.Primitive op ns) is all terms met =
        primitive_ruled l p f tops vs n at op ns is built (parts_ruled n terms ns met)
    form_ruled n at (form.Catch a values exceptions) is all terms met =
        let parts = met_parts (terms_below (counts p) n) (flat_map clause_needs values) (flat_map clause_needs exceptions) met.1 in
        catch_ruled l p f built tops vs n at a values exceptions is (terms a met.0)
        (clauses_ruled l p f built tops vs n terms pattern_ruled values parts.0)
        (clauses_ruled l p f built tops vs n terms pattern_ruled exceptions parts.1)
    form_ruled n at (form.Handle kind types a b c d cs) is all terms met =
        let needs = handler_needs l p arena f built tops vs effect_laws n all pattern_ruled types cs met.1.1.1.1 in
        handle_ruled l p arena f built tops vs effect_laws kind types a b c d cs n at is
        (terms a met.0, (terms b met.1.0, (terms c met.1.1.0, (terms d met.1.1.1.0, tt))))
        needs.0 needs.1
    form_ruled n at (form.Annotated a w) is all terms met = annotated_ruled l p f tops vs arena n at a w is (terms a met.0)

    node_ruled :
        (n : ℕ) → n < length p.terms → ((ws : ℕ → Ty) (m : ℕ) → m < n → TermIsRuled p f tops ws m) → Ruled n
    node_ruled n low all =
        let got = got_there p.terms n low in
        let node = got.0 in
        subst (FormIsRuled l p f tops vs n node) (sym (term_is_tree p arena n node got.1))
        (form_ruled n node.place node.form got.1 all (all vs) (term_met p arena n node got.1))

  all_below : (bound : ℕ) (vs : ℕ → Ty) (n : ℕ) → n < bound → n < length p.terms → TermIsRuled p f tops vs n
  all_below zero vs n less low = absurd (omega arith)
  all_below (suc bound) vs n less low = node_ruled vs n low (λ ws m lt. all_below bound ws m (omega arith) (omega arith))

  -- each term
  pub term_ruled : (vs : ℕ → Ty) (n : ℕ) → n < length p.terms → TermIsRuled p f tops vs n
  term_ruled vs n low = all_below (suc n) vs n (omega arith) low
