-- The rows of the tables of an arena, and those of the program that it stands for.
use Rattle.std.proofs.Common.{◌≡◌, ℕ, zero, suc, ◌+◌, ◌<◌, List, [], ◌∷◌, map, length, slice_get, Option, Some, None, option_map, ◌∙◌, ap, subst, arith}
use Rattle.std.specs.List.{AllByRecursion}
use Rattle.std.proofs.lemmas.Option.{slice_get-map}
use Rattle.effect_meaning.specs.declared.core_tables.TypeRow.{TypeRow}
use Rattle.effect_meaning.specs.declared.core_tables.VariantRow.{VariantRow}
use Rattle.effect_meaning.specs.declared.core_tables.FieldRow.{FieldRow}
use Rattle.effect_meaning.specs.declared.core_tables.ExceptionRow.{ExceptionRow}
use Rattle.effect_meaning.specs.declared.core_tables.EffectRow.{EffectRow}
use Rattle.effect_meaning.specs.Arena.{Parts, Counts, AType, AllMet, EachStands, IsArena, counts, if_any, variant_needs, field_needs, exception_needs, effect_needs}
use Rattle.effect_meaning.specs.ArenaTrees.{program, types_of, variant_row, field_row, exception_row, effect_row, type_rows_from, if_record, fields_of}
use Rattle.effect_meaning.specs.Terms.{TypeRow as RowOfType}
use Rattle.inference_laws.specs.Whole.{IfKnown}
use Rattle.inference_laws.proofs.Each.{one_of_each}

module _ {X : Type 0} where
  -- what holds of each element holds of one that is got
  pub each_got : (P : X → Type 0) (xs : List X) (n : ℕ) (x : X) → slice_get xs n ≡ Some x → AllByRecursion P xs → P x
  each_got P xs n x is h = subst (IfKnown P) is (one_of_each P xs n h)

  -- where all rows stand, one that is got does
  pub each_stands :
      (stands : Counts → X → Type 0) (c : Counts) (i : ℕ) (xs : List X) → EachStands stands (λ k. c) i xs
      → AllByRecursion (stands c) xs
  each_stands stands c i [] h = tt
  each_stands stands c i (x ∷ xs) h = (h.0, each_stands stands c (suc i) xs h.1)

  -- what is got of a table is got of the table of the program
  pub got_mapped :
      {Y : Type 0} (row : X → Y) (xs : List X) (n : ℕ) (x : X) → slice_get xs n ≡ Some x → slice_get (map row xs) n ≡ Some (row x)
  got_mapped row xs n x is = slice_get-map row xs n ∙ ap (option_map row) is

-- a written type that is met, if there is one, is there
pub if_any_met : (c : Counts) (o : Option ℕ) → AllMet c (if_any (λ n. AType n) o) → IfKnown (λ n. n < c.types) o
if_any_met c None h = tt
if_any_met c (Some n) h = h.0

module _ (p : Parts) where
  module _ (arena : IsArena p) (n : ℕ) where
    pub variant_met : (row : VariantRow) → slice_get p.variant_rows n ≡ Some row → AllMet (counts p) (variant_needs row)
    variant_met row is =
        each_got (λ r. AllMet (counts p) (variant_needs r)) p.variant_rows n row is
        (each_stands (λ c r. AllMet c (variant_needs r)) (counts p) 0 p.variant_rows arena.variant_rows)

    pub field_met : (row : FieldRow) → slice_get p.field_rows n ≡ Some row → AllMet (counts p) (field_needs row)
    field_met row is =
        each_got (λ r. AllMet (counts p) (field_needs r)) p.field_rows n row is
        (each_stands (λ c r. AllMet c (field_needs r)) (counts p) 0 p.field_rows arena.field_rows)

    pub exception_met : (row : ExceptionRow) → slice_get p.exception_rows n ≡ Some row → AllMet (counts p) (exception_needs row)
    exception_met row is =
        each_got (λ r. AllMet (counts p) (exception_needs r)) p.exception_rows n row is
        (each_stands (λ c r. AllMet c (exception_needs r)) (counts p) 0 p.exception_rows arena.exception_rows)

    pub effect_met : (row : EffectRow) → slice_get p.effect_rows n ≡ Some row → AllMet (counts p) (effect_needs row)
    effect_met row is =
        each_got (λ r. AllMet (counts p) (effect_needs r)) p.effect_rows n row is
        (each_stands (λ c r. AllMet c (effect_needs r)) (counts p) 0 p.effect_rows arena.effect_rows)

  -- the row of a type in the program
  row_from :
      (i : ℕ) (rows : List TypeRow) (t : ℕ) (row : TypeRow) → slice_get rows t ≡ Some row
      → slice_get (type_rows_from p i rows) t
      ≡ Some (record { parameters = length row.parameters; fields = if_record (fields_of p (i + t)) })
  row_from i [] t row is = absurd (cc)
  row_from i (r ∷ rs) zero row is =
      let same : r ≡ row = cc in
      let here : i ≡ i + 0 = omega arith in
      ap (λ (a : TypeRow). Some (record { parameters = length a.parameters; fields = if_record (fields_of p i) })) same
      ∙ ap (λ k. Some (record { parameters = length row.parameters; fields = if_record (fields_of p k) })) here
  row_from i (r ∷ rs) (suc t) row is =
      let on : suc i + t ≡ i + suc t = omega arith in
      row_from (suc i) rs t row is
      ∙ ap (λ k. Some (record { parameters = length row.parameters; fields = if_record (fields_of p k) })) on

  -- a type as a row of the program
  abbrev pub row_of_type : ℕ → TypeRow → RowOfType
  row_of_type t row = record { parameters = length row.parameters; fields = if_record (fields_of p t) }

  pub type_row_is :
      (t : ℕ) (row : TypeRow) → slice_get p.type_rows t ≡ Some row → slice_get (program p).types t ≡ Some (row_of_type t row)
  type_row_is t row is =
      let from : 0 + t ≡ t = omega arith in
      row_from 0 p.type_rows t row is ∙ ap (λ k. Some (row_of_type k row)) from

  pub variant_row_is :
      (n : ℕ) (row : VariantRow) → slice_get p.variant_rows n ≡ Some row
      → slice_get (program p).variants n ≡ Some (variant_row (types_of p) row)
  variant_row_is n row is = got_mapped (variant_row (types_of p)) p.variant_rows n row is

  pub field_row_is :
      (n : ℕ) (row : FieldRow) → slice_get p.field_rows n ≡ Some row
      → slice_get (program p).fields n ≡ Some (field_row (types_of p) row)
  field_row_is n row is = got_mapped (field_row (types_of p)) p.field_rows n row is

  pub exception_row_is :
      (n : ℕ) (row : ExceptionRow) → slice_get p.exception_rows n ≡ Some row
      → slice_get (program p).exceptions n ≡ Some (exception_row (types_of p) row)
  exception_row_is n row is = got_mapped (exception_row (types_of p)) p.exception_rows n row is

  pub effect_row_is :
      (n : ℕ) (row : EffectRow) → slice_get p.effect_rows n ≡ Some row
      → slice_get (program p).effects n ≡ Some (effect_row (types_of p) row)
  effect_row_is n row is = got_mapped (effect_row (types_of p)) p.effect_rows n row is
