-- Fields have the types that the rules say.
use Rattle.std.proofs.Common.{◌≡◌, ℕ, ◌<◌, length, Option, Some, None, refl, sym, ◌∙◌, ap, subst, slice_get}
use Rattle.fx_base.specs.declared.refusal.Place.{Place}
use Rattle.effect_meaning.specs.declared.core_tables.FieldRow.{FieldRow}
use Rattle.effect_meaning.specs.Arena.{Parts, IsArena}
use Rattle.effect_meaning.specs.ArenaTrees.{program, type_at as written_at, types_of, field_row}
use Rattle.type_terms.specs.TypeTrees.{Ty, Constructed, type_at}
use Rattle.type_terms.specs.WrittenTypes.{HasArguments, Means}
use Rattle.type_terms.specs.Constructors.{FieldHas, IsMutable}
use Rattle.type_readings.specs.Readings.{Reads}
use Rattle.ml_infer.specs.declared.inference.Inference.{Inference}
use Rattle.ml_infer.specs.declared.written.Variables.{Variables}
use Rattle.ml_infer.specs.Constructors.{field_owner, field_type, field_type_of, instance, parameter_count}
use Rattle.ml_infer.specs.Inference.{Gives}
use Rattle.ml_infer.specs.Terms.{is_mutable}
use Rattle.ml_infer.specs.Written.{refused_unless}
use Rattle.inference_laws.specs.Whole.{HasRoom}
use Rattle.inference_laws.specs.Meanings.{StandFor, ReadsAreMeant, LeadsTo, IsBelow, AreBelowThese, RowsAreBelow}
use Rattle.inference_laws.proofs.Fields.{goes_on}
use Rattle.inference_laws.proofs.Kept.{Kept}
use Rattle.inference_laws.proofs.GraphLaws.{GraphLaws}
use Rattle.inference_laws.proofs.Written.{HasVariables}
use Rattle.inference_laws.proofs.Trees.{got_there}
use Rattle.inference_laws.proofs.Leading.{leads_here, refused_leads, variable_leads}
use Rattle.inference_laws.proofs.WrittenMeant.{written_leads, written_meant}
use Rattle.inference_laws.proofs.Tables.{each_got, field_met, field_row_is}
use Rattle.inference_laws.proofs.Instances.{InstanceIs}

-- the row of a field that has an owner
record OwnerRow (p : Parts) (n t : ℕ) : Type 0 where
  row : FieldRow
  is : slice_get p.field_rows n ≡ Some row
  of_type : row.of_type ≡ t

owner_row_of :
    (p : Parts) (n t : ℕ) (o : Option FieldRow) → slice_get p.field_rows n ≡ o
    → elim o [ None ↦ None | Some row ↦ Some row.of_type ] ≡ Some t
    → OwnerRow p n t
owner_row_of p n t None is e = absurd (cc)
owner_row_of p n t (Some row) is e = record { row = row; is = is; of_type = cc }

owner_row : (p : Parts) (n t : ℕ) → field_owner p n ≡ Some t → OwnerRow p n t
owner_row p n t e = owner_row_of p n t (slice_get p.field_rows n) refl e

-- the owner of a field is a type
pub owner_there : (p : Parts) → IsArena p → (n t : ℕ) → field_owner p n ≡ Some t → t < length p.type_rows
owner_there p arena n t e =
    let o = owner_row p n t e in subst (λ k. k < length p.type_rows) o.of_type (field_met p arena n o.row o.is).0

module _ (l : GraphLaws) (p : Parts) (arena : IsArena p) (s0 s : Inference) (kept : Kept s0 s) (at : Place) (n : ℕ) where
  module _ (vars : Variables) (there : HasVariables s vars) where
    field_leads_so : (o : Option FieldRow) → LeadsTo p s (field_type_of o p vars at s).state
    field_leads_so None = variable_leads l s0 s kept p
    field_leads_so (Some row) = written_leads l p arena s0 s kept vars at there row.annotation

    pub field_leads : LeadsTo p s (field_type p n vars at s).state
    field_leads = field_leads_so (slice_get p.field_rows n)

    -- the type of a field means what was written, for what reads the types behind it
    abbrev FieldMeans : FieldRow → Gives → Type 0
    FieldMeans row g =
        HasRoom g.state.types → g.state.end ≡ None → ReadsAreMeant p s → (f vs : ℕ → Ty) → Reads f g.state.types
        → StandFor f vs g.state vars → Means (program p).types vs (written_at (types_of p) row.annotation) (f g.found)

    field_means :
        (row : FieldRow) → slice_get p.field_rows n ≡ Some row → AreBelowThese vars (written_at (types_of p) row.annotation)
        → FieldMeans row (field_type p n vars at s)
    field_means row is few =
        subst (λ o. FieldMeans row (field_type_of o p vars at s)) (sym is)
        (λ room on meant f vs reads stand.
        written_meant l p arena s0 s kept vars at there row.annotation (field_met p arena n row is).1.0 room on meant few f vs reads
        stand)

  -- where an instance of its record type was made, perhaps earlier, a field has the type that its rule says
  pub field_has :
      RowsAreBelow p → (t : ℕ) → field_owner p n ≡ Some t → (before : Inference)
      → HasVariables s (instance p t before).value.variables
      → HasRoom (field_type p n (instance p t before).value.variables at s).state.types
      → (field_type p n (instance p t before).value.variables at s).state.end ≡ None → ReadsAreMeant p s
      → (f : ℕ → Ty) → Reads f (field_type p n (instance p t before).value.variables at s).state.types
      → InstanceIs p t f (instance p t before).value
      → FieldHas (program p) n (f (instance p t before).value.value)
      (f (field_type p n (instance p t before).value.variables at s).found)
  field_has below t owner before there room on meant f reads i =
      let m = instance p t before in
      let u = field_type p n m.value.variables at s in
      let o = owner_row p n t owner in
      let few : IsBelow (parameter_count p t) (written_at (types_of p) o.row.annotation) =
      subst (λ k. IsBelow (parameter_count p k) (written_at (types_of p) o.row.annotation)) o.of_type
      (each_got (λ r. IsBelow (parameter_count p r.of_type) (written_at (types_of p) r.annotation)) p.field_rows n o.row o.is
      below.fields) in
      let means =
      field_means m.value.variables there o.row o.is few room on meant f (type_at i.arguments) reads (i.stand u.state) in (
        field_row (types_of p) o.row,
        i.arguments,
        field_row_is p n o.row o.is,
        i.is ∙ ap (λ k. Constructed k i.arguments) (sym o.of_type),
        subst (λ k. HasArguments (program p).types k i.arguments) (sym o.of_type) i.has,
        means,
      )

  -- mutable fields
  mutable_leads_so :
      (o : Option FieldRow) → LeadsTo p s (elim o [ None ↦ s | Some row ↦ refused_unless row.is_mutable at s ])
  mutable_leads_so None = leads_here p s
  mutable_leads_so (Some row) = refused_leads l s0 s kept p row.is_mutable at

  pub mutable_leads : LeadsTo p s (is_mutable p at n s)
  mutable_leads = mutable_leads_so (slice_get p.field_rows n)

-- the walk goes on only where a field is mutable
pub mutable_is :
    (p : Parts) (at : Place) (n : ℕ) (s : Inference) → n < length p.field_rows → (is_mutable p at n s).end ≡ None
    → IsMutable (program p) n
mutable_is p at n s low on =
    let got = got_there p.field_rows n low in
    let State : Option FieldRow → Inference = λ o. elim o [ None ↦ s | Some row ↦ refused_unless row.is_mutable at s ] in
    let here : (refused_unless got.0.is_mutable at s).end ≡ None = subst (λ o. (State o).end ≡ None) got.1 on in
    (field_row (types_of p) got.0, field_row_is p n got.0 got.1, goes_on got.0.is_mutable at s here)
