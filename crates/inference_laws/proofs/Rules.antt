-- Constructors and fields have the types that the rules say.
use Rattle.std.proofs.Common.{◌≡◌, ℕ, List, Option, Some, None, option_map, sym, ◌∙◌, ap, subst, arith, slice_get}
use Rattle.fx_base.specs.declared.refusal.Place.{Place}
use Rattle.effect_meaning.specs.declared.core_nodes.Constructor.{Constructor}
use Rattle.effect_meaning.specs.declared.core_nodes.Constructor.TheVariants as constructor
use Rattle.effect_meaning.specs.declared.core_tables.VariantRow.{VariantRow}
use Rattle.effect_meaning.specs.declared.core_tables.ExceptionRow.{ExceptionRow}
use Rattle.effect_meaning.specs.declared.core_tables.EffectRow.{EffectRow}
use Rattle.effect_meaning.specs.Arena.{Parts, IsArena, Met, counts, constructor_need}
use Rattle.effect_meaning.specs.ArenaTrees.{program, constructor_of, type_at as written_at, types_of, variant_row, exception_row, effect_row}
use Rattle.effect_meaning.specs.Builtins.{effect_type}
use Rattle.effect_meaning.specs.Terms.{Written, Applied, NoTypes, AndType, TypeRow}
use Rattle.type_terms.specs.TypeTrees.{Ty, Constructed as ConstructedTy, NoTys, AndTy, exn, effect, type_at}
use Rattle.type_terms.specs.WrittenTypes.{Means}
use Rattle.type_terms.specs.Constructors.{Constructs, no_parameters}
use Rattle.type_graph.specs.Graph.{built_in}
use Rattle.type_readings.specs.Readings.{Reads}
use Rattle.ml_infer.specs.declared.constructors.Constructed.{Constructed}
use Rattle.ml_infer.specs.declared.constructors.Instance.{Instance}
use Rattle.ml_infer.specs.declared.inference.Inference.{Inference}
use Rattle.ml_infer.specs.declared.written.Variables.TheVariants as variables
use Rattle.ml_infer.specs.Constructors.{closed, constructed, constructed_effect_of, constructed_exception_of, constructed_variant_of, declared_argument, first_or_zero, instance, new_variables, parameter_count}
use Rattle.ml_infer.specs.Inference.{With}
use Rattle.ml_infer.specs.Written.{written}
use Rattle.inference_laws.specs.Whole.{HasRoom, IfKnown}
use Rattle.inference_laws.specs.Meanings.{StandFor, ReadsAreMeant, LeadsTo, IsBelow, AreBelowThese, BelowIfAny, RowsAreBelow}
use Rattle.inference_laws.specs.Premises.{IsWrittenEffect, EffectsAreEffects}
use Rattle.inference_laws.proofs.Kept.{Kept, kept_here, room_before}
use Rattle.inference_laws.proofs.GraphLaws.{GraphLaws}
use Rattle.inference_laws.proofs.Written.{written_kept}
use Rattle.inference_laws.proofs.Constructors.{argument_made, instance_made}
use Rattle.inference_laws.proofs.Trees.{got_there}
use Rattle.inference_laws.proofs.Leading.{leads_on, variable_leads}
use Rattle.inference_laws.proofs.WrittenMeant.{argument_leads, argument_meant, written_leads, written_meant}
use Rattle.inference_laws.proofs.Tables.{each_got, if_any_met, variant_met, exception_met, effect_met, variant_row_is, exception_row_is, effect_row_is}
use Rattle.inference_laws.proofs.Instances.{instance_is, instance_leads}

-- the variables of an argument are parameters, if there is one
argument_below :
    (p : Parts) (first many : ℕ) (o : Option ℕ) → BelowIfAny p many o
    → IfKnown (λ n. AreBelowThese (variables.Parameters first many) (written_at (types_of p) n)) o
argument_below p first many None h = tt
argument_below p first many (Some w) h = h

-- a declaration without parameters asks nothing of type variables
stand_closed : (f : ℕ → Ty) (s : Inference) → StandFor f no_parameters s closed
stand_closed f s v low = absurd (omega arith)

-- what a written Effect.t means is one
means_effect :
    (rows : List TypeRow) (vs : ℕ → Ty) (w : Written) (t : Ty) → Means rows vs (Applied effect_type (AndType w NoTypes)) t
    → (r : Ty) × (t ≡ effect r)
means_effect rows vs w t h =
    let parts = h.3 in
    let one : h.0 ≡ AndTy parts.0 NoTys = parts.2 ∙ ap (λ us. AndTy parts.0 us) parts.4 in
    (parts.0, h.1 ∙ ap (λ ts. ConstructedTy effect_type ts) one)

-- what reads the built-in types gives exceptions their type
exception_is_read : (f : ℕ → Ty) → Reads f built_in → f 5 ≡ exn
exception_is_read f reads = reads 5

module _ (l : GraphLaws) (p : Parts) (arena : IsArena p) (below : RowsAreBelow p) (s0 s : Inference) (kept : Kept s0 s)
    (at : Place) where
  abbrev made : ℕ → With Instance
  made t = instance p t s

  -- the states of a constructor
  variant_leads : (o : Option VariantRow) → LeadsTo p s (constructed_variant_of o p at s).state
  variant_leads None = variable_leads l s0 s kept p
  variant_leads (Some row) =
      let m = made row.of_type in
      let k = instance_made l p row.of_type s0 s kept in
      leads_on p s m.state (declared_argument p row.argument m.value.variables at m.state).state
      (argument_made l p m.value.variables at m.state m.state (kept_here s0 m.state k.kept) k.variables row.argument).0
      (instance_leads l p s0 s kept row.of_type)
      (argument_leads l p arena s0 m.state k.kept m.value.variables at k.variables row.argument)

  exception_leads : (o : Option ExceptionRow) → LeadsTo p s (constructed_exception_of o p at s).state
  exception_leads None = variable_leads l s0 s kept p
  exception_leads (Some row) = argument_leads l p arena s0 s kept closed at (λ room. omega arith) row.argument

  effect_leads : (o : Option EffectRow) → LeadsTo p s (constructed_effect_of o p at s).state
  effect_leads None = variable_leads l s0 s kept p
  effect_leads (Some row) =
      let a = declared_argument p row.argument closed at s in
      let k = argument_made l p closed at s0 s kept (λ room. omega arith) row.argument in
      leads_on p s a.state (written p row.result closed at a.state).state
      (written_kept l p closed at a.state a.state row.result (kept_here s0 a.state k.0) (λ room. omega arith)).0
      (argument_leads l p arena s0 s kept closed at (λ room. omega arith) row.argument)
      (written_leads l p arena s0 a.state k.0 closed at (λ room. omega arith) row.result)

  pub constructed_leads : (con : Constructor) → LeadsTo p s (constructed p con at s).state
  unfolding constructed
  constructed_leads (constructor.Variant n) = variant_leads (slice_get p.variant_rows n)
  constructed_leads (constructor.Exception n) = exception_leads (slice_get p.exception_rows n)
  constructed_leads (constructor.Effect n) = effect_leads (slice_get p.effect_rows n)

  -- a use of a constructor has the types that its rule says, for what reads the types behind it
  abbrev pub IsAsConstructed : Constructor → With Constructed → Type 0
  IsAsConstructed con r =
      HasRoom r.state.types → r.state.end ≡ None → ReadsAreMeant p s → (f : ℕ → Ty) → Reads f built_in → Reads f r.state.types
      → Constructs (program p) (constructor_of con) (option_map f r.value.argument) (f r.value.value)

  variant_is :
      (n : ℕ) (row : VariantRow) → slice_get p.variant_rows n ≡ Some row
      → IsAsConstructed (constructor.Variant n) (constructed_variant_of (Some row) p at s)
  variant_is n row is room on meant f first reads =
      let t = row.of_type in
      let m = made t in
      let k = instance_made l p t s0 s kept in
      let a = declared_argument p row.argument m.value.variables at m.state in
      let onward =
      (argument_made l p m.value.variables at m.state m.state (kept_here s0 m.state k.kept) k.variables row.argument).0 in
      let needs = variant_met p arena n row is in
      let before = room_before m.state a.state onward room in
      let i = instance_is l p s0 s kept t needs.0 f before (onward.reads room on f reads) in
      let few = argument_below p (first_or_zero (new_variables (parameter_count p t) s).value) (parameter_count p t) row.argument
      (each_got (λ r. BelowIfAny p (parameter_count p r.of_type) r.argument) p.variant_rows n row is below.variants) in
      let argument = argument_meant l p arena s0 m.state k.kept m.value.variables at k.variables row.argument
      (if_any_met (counts p) row.argument needs.1) few room on
      ((instance_leads l p s0 s kept t).meant before (onward.ended on) meant) f (type_at i.arguments) reads (i.stand a.state) in
      (variant_row (types_of p) row, i.arguments, variant_row_is p n row is, i.is, i.has, argument)

  exception_is :
      (n : ℕ) (row : ExceptionRow) → slice_get p.exception_rows n ≡ Some row
      → IsAsConstructed (constructor.Exception n) (constructed_exception_of (Some row) p at s)
  exception_is n row is room on meant f first reads =
      let a = declared_argument p row.argument closed at s in
      let few = argument_below p 0 0 row.argument
      (each_got (λ (r : ExceptionRow). BelowIfAny p 0 r.argument) p.exception_rows n row is below.exceptions) in
      let argument = argument_meant l p arena s0 s kept closed at (λ r. omega arith) row.argument
      (if_any_met (counts p) row.argument (exception_met p arena n row is)) few room on meant f no_parameters reads
      (stand_closed f a.state) in
      (exception_row (types_of p) row, exception_row_is p n row is, exception_is_read f first, argument)

  effect_is :
      EffectsAreEffects p → (n : ℕ) (row : EffectRow) → slice_get p.effect_rows n ≡ Some row
      → IsAsConstructed (constructor.Effect n) (constructed_effect_of (Some row) p at s)
  effect_is effects n row is room on meant f first reads =
      let a = declared_argument p row.argument closed at s in
      let k = (argument_made l p closed at s0 s kept (λ r. omega arith) row.argument).0 in
      let onward = (written_kept l p closed at a.state a.state row.result (kept_here s0 a.state k) (λ r. omega arith)).0 in
      let t = written p row.result closed at a.state in
      let needs = effect_met p arena n row is in
      let few =
      each_got (λ r. BelowIfAny p 0 r.argument × IsBelow 0 (written_at (types_of p) r.result)) p.effect_rows n row is
      below.effects in
      let before = room_before a.state t.state onward room in
      let argument = argument_meant l p arena s0 s kept closed at (λ r. omega arith) row.argument
      (if_any_met (counts p) row.argument needs.1) (argument_below p 0 0 row.argument few.0) before (onward.ended on) meant f
      no_parameters (onward.reads room on f reads) (stand_closed f a.state) in
      let result = written_meant l p arena s0 a.state k closed at (λ r. omega arith) row.result needs.0 room on
      ((argument_leads l p arena s0 s kept closed at (λ r. omega arith) row.argument).meant before (onward.ended on) meant) few.1 f
      no_parameters reads (stand_closed f t.state) in
      let one = each_got (λ (r : EffectRow). IsWrittenEffect p r.result) p.effect_rows n row is effects in
      let are = means_effect (program p).types no_parameters one.0 (f t.found)
      (subst (λ w. Means (program p).types no_parameters w (f t.found)) one.1 result) in
      (effect_row (types_of p) row, are.0, effect_row_is p n row is, are.1, result, argument)

  pub constructed_is :
      EffectsAreEffects p → (con : Constructor) → Met (counts p) (constructor_need con)
      → IsAsConstructed con (constructed p con at s)
  unfolding constructed
  constructed_is effects (constructor.Variant n) met =
      let got = got_there p.variant_rows n met in
      subst (λ o. IsAsConstructed (constructor.Variant n) (constructed_variant_of o p at s)) (sym got.1) (variant_is n got.0 got.1)
  constructed_is effects (constructor.Exception n) met =
      let got = got_there p.exception_rows n met in
      subst (λ o. IsAsConstructed (constructor.Exception n) (constructed_exception_of o p at s)) (sym got.1)
      (exception_is n got.0 got.1)
  constructed_is effects (constructor.Effect n) met =
      let got = got_there p.effect_rows n met in
      subst (λ o. IsAsConstructed (constructor.Effect n) (constructed_effect_of o p at s)) (sym got.1)
      (effect_is effects n got.0 got.1)
