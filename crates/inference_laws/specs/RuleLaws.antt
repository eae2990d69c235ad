-- The laws of uses of constructors and fields.
use Rattle.std.specs.Prelude.{◌≡◌, ℕ, ◌<◌, ◌≤◌, List, ◌∷◌, length, map, Some, None, true, option_map}
use Rattle.fx_base.specs.declared.refusal.Place.{Place}
use Rattle.effect_meaning.specs.declared.core_nodes.Constructor.{Constructor}
use Rattle.effect_meaning.specs.declared.core_nodes.Constructor.TheVariants as constructor
use Rattle.effect_meaning.specs.declared.core_nodes.FieldPart.{FieldPart}
use Rattle.effect_meaning.specs.Arena.{Parts, IsArena, Met, counts, constructor_need}
use Rattle.effect_meaning.specs.ArenaTrees.{program, constructor_of}
use Rattle.effect_meaning.specs.Terms.{Effect}
use Rattle.type_terms.specs.TypeTrees.{Ty, Constructed, Tys, effect}
use Rattle.type_terms.specs.Constructors.{Constructs, FieldHas, IsMutable, NamesEachField}
use Rattle.type_graph.specs.Graph.{built_in}
use Rattle.type_readings.specs.Readings.{Reads}
use Rattle.ml_infer.specs.declared.inference.Inference.{Inference}
use Rattle.ml_infer.specs.declared.tasks.Task.{Task}
use Rattle.ml_infer.specs.Constructors.{answer_of, constructed, field_owner, field_type, instance}
use Rattle.ml_infer.specs.Inference.{Gives, begun}
use Rattle.ml_infer.specs.Terms.{is_mutable, names_each}
use Rattle.ml_infer.specs.Walk.{acted}
use Rattle.inference_laws.specs.Whole.{HasRoom, IsWhole}
use Rattle.inference_laws.specs.Meanings.{ReadsAreMeant, RowsAreBelow}
use Rattle.inference_laws.specs.Premises.{EffectsAreEffects}

-- where the walk goes on behind a use of a constructor, its argument and its value have the types that its rule says, whatever reads
-- the types there
abbrev pub ConstructorIsRuled : Type 0
ConstructorIsRuled =
    (p : Parts) (con : Constructor) (at : Place) (s : Inference) → IsArena p → RowsAreBelow p → EffectsAreEffects p
    → Met (counts p) (constructor_need con) → IsWhole s → ReadsAreMeant p s → HasRoom (constructed p con at s).state.types
    → (constructed p con at s).state.end ≡ None → (f : ℕ → Ty) → Reads f built_in → Reads f (constructed p con at s).state.types
    → Constructs (program p) (constructor_of con) (option_map f (constructed p con at s).value.argument)
    (f (constructed p con at s).value.value)

-- what is found of what an effect gives
abbrev pub answer_found : Parts → ℕ → Place → Inference → Gives
answer_found p n at s =
    let made = constructed p (constructor.Effect n) at s in answer_of made.value.value made.state

-- where the walk goes on behind that, the constructor of the effect makes effects that give it
abbrev pub EffectIsRuled : Type 0
EffectIsRuled =
    (p : Parts) (n : ℕ) (at : Place) (s : Inference) → IsArena p → RowsAreBelow p → EffectsAreEffects p → n < length p.effect_rows
    → IsWhole s → ReadsAreMeant p s → HasRoom (answer_found p n at s).state.types → (answer_found p n at s).state.end ≡ None
    → (f : ℕ → Ty) → Reads f built_in → Reads f (answer_found p n at s).state.types
    → Constructs (program p) (Effect n) (option_map f (constructed p (constructor.Effect n) at s).value.argument)
    (effect (f (answer_found p n at s).found))

-- the type of a field of an instance of its record type
abbrev pub field_found : Parts → (field t : ℕ) → Place → Inference → Gives
field_found p field t at s = let made = instance p t s in field_type p field made.value.variables at made.state

-- where the walk goes on behind that, it has the type that the rule of the field says
abbrev pub FieldIsRuled : Type 0
FieldIsRuled =
    (p : Parts) (field t : ℕ) (at : Place) (s : Inference) → IsArena p → RowsAreBelow p → field_owner p field ≡ Some t → IsWhole s
    → ReadsAreMeant p s → HasRoom (field_found p field t at s).state.types → (field_found p field t at s).state.end ≡ None
    → (f : ℕ → Ty) → Reads f (field_found p field t at s).state.types
    → FieldHas (program p) field (f (instance p t s).value.value) (f (field_found p field t at s).found)

-- the walk goes on behind an assignment only where the field is mutable
abbrev pub MutableIsRuled : Type 0
MutableIsRuled =
    (p : Parts) (field : ℕ) (at : Place) (s : Inference) → field < length p.field_rows → (is_mutable p at field s).end ≡ None
    → IsMutable (program p) field

-- parts that a record expression names as it should name each field of its type once
abbrev pub RecordIsRuled : Type 0
RecordIsRuled =
    (p : Parts) (most t : ℕ) (part : FieldPart) (parts : List FieldPart) (s : Inference) → t < length p.type_rows
    → length p.field_rows ≤ 4294967295 → s.fields ≡ (begun p most).fields → (names_each p t (part ∷ parts) s).value ≡ true
    → (ts : Tys)
    → NamesEachField (program p) (map (λ a. a.field) (part ∷ parts)) (Constructed t ts)

-- a task changes nothing in what is counted of fields and constructors
abbrev pub TaskKeepsMembers : Type 0
TaskKeepsMembers =
    (t : Task) (p : Parts) (s : Inference) → ((acted t p s).fields ≡ s.fields) × ((acted t p s).variants ≡ s.variants)
