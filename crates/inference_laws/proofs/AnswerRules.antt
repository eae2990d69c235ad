-- What an effect gives has the type that its rule says.
use Rattle.std.proofs.Common.{◌≡◌, ℕ, ◌<◌, List, [], ◌∷◌, length, Option, Some, None, option_map, false, refl, sym, ◌∙◌, ap, subst, arith, slice_get}
use Rattle.fx_base.specs.declared.refusal.Place.{Place}
use Rattle.effect_meaning.specs.declared.core_nodes.Constructor.TheVariants as constructor
use Rattle.effect_meaning.specs.declared.core_tables.EffectRow.{EffectRow}
use Rattle.effect_meaning.specs.Arena.{Parts, IsArena}
use Rattle.effect_meaning.specs.ArenaTrees.{program}
use Rattle.effect_meaning.specs.Builtins.{effect_type}
use Rattle.effect_meaning.specs.Terms.{NoTypes, AndType, Effect}
use Rattle.type_terms.specs.TypeTrees.{Ty, Constructed, effect}
use Rattle.type_terms.specs.Constructors.{Constructs}
use Rattle.type_graph.specs.declared.form.Form.{Form}
use Rattle.type_graph.specs.declared.form.Form.TheVariants.{Variable, Link, Applied}
use Rattle.type_graph.specs.Graph.{built_in, argument_of, arguments_of, form_of, is_variable, link_of, root}
use Rattle.type_readings.specs.Readings.{IsOfForm, Reads, trees_of}
use Rattle.ml_infer.specs.declared.constructors.Constructed.{Constructed as ConstructedTypes}
use Rattle.ml_infer.specs.declared.inference.Inference.{Inference}
use Rattle.ml_infer.specs.Constructors.{answer_in, answer_of, closed, constructed, constructed_effect_of, declared_argument}
use Rattle.ml_infer.specs.Inference.{Gives, With}
use Rattle.inference_laws.specs.Whole.{HasRoom}
use Rattle.inference_laws.specs.Meanings.{ReadsAreMeant, LeadsTo, RowsAreBelow}
use Rattle.inference_laws.specs.Premises.{IsWrittenEffect, EffectsAreEffects}
use Rattle.inference_laws.proofs.Kept.{Kept, kept_here, room_before}
use Rattle.inference_laws.proofs.GraphLaws.{GraphLaws}
use Rattle.inference_laws.proofs.Constructors.{answer_made, argument_made, constructed_made}
use Rattle.inference_laws.proofs.Trees.{got_there}
use Rattle.inference_laws.proofs.Leading.{leads_here, leads_on, variable_leads}
use Rattle.inference_laws.proofs.Tables.{each_got, effect_met}
use Rattle.inference_laws.proofs.Rules.{constructed_is, constructed_leads}
use Rattle.inference_laws.proofs.KnownForms.{IsKnownForm, applied_node, written_known}

module _ (l : GraphLaws) (s0 s : Inference) (kept : Kept s0 s) where
  answer_leads_so : (p : Parts) (o : Option ℕ) → LeadsTo p s (answer_in o s).state
  answer_leads_so p None = variable_leads l s0 s kept p
  answer_leads_so p (Some t) = leads_here p s

  pub answer_leads : (p : Parts) (t : ℕ) → LeadsTo p s (answer_of t s).state
  answer_leads p t = answer_leads_so p (argument_of s.types.arguments (form_of s.types.nodes t) 0)

  module _ (t : ℕ) (f : ℕ → Ty) (r : Ty) where
    first_argument : (c : ℕ) (ns : List ℕ) → Constructed c (trees_of f ns) ≡ effect r → f (answer_in (slice_get ns 0) s).found ≡ r
    first_argument c [] e = absurd (cc)
    first_argument c (n ∷ ns) e = cc

    form_answers :
        (o : Form) → form_of s.types.nodes t ≡ o → HasRoom s.types → Reads f s.types → is_variable o ≡ false → f t ≡ effect r
        → f (answer_in (argument_of s.types.arguments o 0) s).found ≡ r
    form_answers Variable is room reads known e = absurd (cc)
    form_answers (Link m) is room reads known e =
        let well = (kept.whole room).types.well in
        let none : link_of (form_of s.types.nodes t) ≡ None = l.root_root s.types well t in
        absurd (cc)
    form_answers (Applied c first count) is room reads known e =
        let well = (kept.whole room).types.well in
        let at_root : IsOfForm f s.types.arguments (Applied c first count) (f (root s.types.nodes t)) =
        subst (λ o. IsOfForm f s.types.arguments o (f (root s.types.nodes t))) is (reads (root s.types.nodes t)) in
        first_argument c (arguments_of s.types.arguments (Applied c first count))
        (sym at_root ∙ sym (l.root_equal s.types f well reads t) ∙ e)

    -- if something is known of the type of an effect, its argument is what it gives
    pub answer_is :
        IsKnownForm s.types t → HasRoom (answer_of t s).state.types → (answer_of t s).state.end ≡ None
        → Reads f (answer_of t s).state.types
        → f t ≡ effect r → f (answer_of t s).found ≡ r
    answer_is known room on reads e =
        let k = (answer_made l s s (kept_here s0 s kept) t).0 in
        form_answers (form_of s.types.nodes t) refl (room_before s (answer_of t s).state k room) (k.reads room on f reads) known e

-- something is known of the type of an effect, as it is declared
module _ (l : GraphLaws) (p : Parts) (arena : IsArena p) (s0 s : Inference) (kept : Kept s0 s) (at : Place) where
  abbrev ValueIsKnown : With ConstructedTypes → Type 0
  ValueIsKnown r = HasRoom r.state.types → r.state.end ≡ None → IsKnownForm r.state.types r.value.value

  row_known :
      EffectsAreEffects p → (n : ℕ) (row : EffectRow) → slice_get p.effect_rows n ≡ Some row
      → ValueIsKnown (constructed_effect_of (Some row) p at s)
  row_known effects n row is room on =
      let a = declared_argument p row.argument closed at s in
      let k = (argument_made l p closed at s0 s kept (λ r. omega arith) row.argument).0 in
      let one = each_got (λ (r : EffectRow). IsWrittenEffect p r.result) p.effect_rows n row is effects in
      let node = applied_node p arena row.result effect_type (AndType one.0 NoTypes) (effect_met p arena n row is).0 one.1 in
      written_known p closed at row.result effect_type node.arguments node.is s0 a.state k room on

  pub effect_known :
      EffectsAreEffects p → (n : ℕ) → n < length p.effect_rows → ValueIsKnown (constructed p (constructor.Effect n) at s)
  unfolding constructed
  effect_known effects n low =
      let got = got_there p.effect_rows n low in
      subst (λ o. ValueIsKnown (constructed_effect_of o p at s)) (sym got.1) (row_known effects n got.0 got.1)

-- a constructor of an effect makes effects that give what its answer is, with the argument that was declared
module _ (l : GraphLaws) (p : Parts) (arena : IsArena p) (below : RowsAreBelow p) (effects : EffectsAreEffects p)
    (s0 s : Inference) (kept : Kept s0 s) (at : Place) (n : ℕ) where
  abbrev of_effect : With ConstructedTypes
  of_effect = constructed p (constructor.Effect n) at s

  abbrev answer : Gives
  answer = answer_of of_effect.value.value of_effect.state

  answer_onward : Kept of_effect.state answer.state
  answer_onward =
      (answer_made l of_effect.state of_effect.state
      (kept_here s0 of_effect.state (constructed_made l p at s0 s kept (constructor.Effect n)).kept) of_effect.value.value).0

  pub effect_leads : LeadsTo p s answer.state
  effect_leads =
      let k = (constructed_made l p at s0 s kept (constructor.Effect n)).kept in
      leads_on p s of_effect.state answer.state answer_onward
      (constructed_leads l p arena below s0 s kept at (constructor.Effect n))
      (answer_leads l s0 of_effect.state k p of_effect.value.value)

  pub effect_answers :
      n < length p.effect_rows → HasRoom answer.state.types → answer.state.end ≡ None → ReadsAreMeant p s → (f : ℕ → Ty)
      → Reads f built_in
      → Reads f answer.state.types
      → Constructs (program p) (Effect n) (option_map f of_effect.value.argument) (effect (f answer.found))
  effect_answers low room on meant f first reads =
      let k = (constructed_made l p at s0 s kept (constructor.Effect n)).kept in
      let before = room_before of_effect.state answer.state answer_onward room in
      let went = answer_onward.ended on in
      let is = constructed_is l p arena below s0 s kept at effects (constructor.Effect n) low before went meant f first
      (answer_onward.reads room on f reads) in
      let gives : f answer.found ≡ is.1 = answer_is l s0 of_effect.state k of_effect.value.value f is.1
      (effect_known l p arena s0 s kept at effects n low before went) room on reads is.3 in
      let same : f of_effect.value.value ≡ effect (f answer.found) = is.3 ∙ ap (λ r. effect r) (sym gives) in
      subst (λ t. Constructs (program p) (Effect n) (option_map f of_effect.value.argument) t) same is
