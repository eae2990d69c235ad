-- The tests of the items that declare types, exceptions or effects.
use Rattle.std.specs.Prelude.{◌≡◌, ℕ, suc, Bool, true, false, cond, ◌&&◌, ◌||◌, ◌==◌, nat_lt, nat_le, List, [], ◌∷◌, length, slice_get, slice_index_or, Option, Some, None}
use Rattle.std.specs.List.{list_all}
use Rattle.effect_meaning.specs.Arena.{Parts}
use Rattle.effect_meaning.specs.Builtins.{builtin_types, builtin_variants, builtin_exceptions}
use Rattle.effect_meaning.specs.Scoped.{Scope, holds, texts_differ, parameters_of, form_scoped, form_declares, item_scoped, items_scoped, behind}
use Rattle.effect_meaning.specs.declared.core_tables.VariantRow.{VariantRow}
use Rattle.effect_meaning.specs.declared.core_tables.FieldRow.{FieldRow}
use Rattle.effect_meaning.specs.declared.core_tables.EffectRow.{EffectRow}
use Rattle.effect_meaning.specs.declared.core_tables.Item.{Item}
use Rattle.effect_meaning.specs.declared.core_tables.ItemForm.{ItemForm}
use Rattle.core_check.specs.declared.known.Known.{Known}
use Rattle.core_check.specs.declared.tables.Tables.{Tables}
use Rattle.core_check.specs.Walk.{Covers, HasReach, is_within, is_any_within, is_reached, is_any_reached}
use Rattle.core_check.specs.Written.{HasBound}
use Rattle.core_check.specs.Effects.{is_closed_by, is_any_closed_by}
use Rattle.core_check.specs.Texts.{told_apart}

-- the count of types behind the item that declares a type
abbrev pub limit : Tables → ℕ → ℕ
limit tb t = slice_index_or tb.limits.items t 0

-- the types of a constructor or a field are declared, where the types of the item are
abbrev pub variant_fits : Parts → Tables → VariantRow → Bool
variant_fits p tb r =
    is_any_within tb.reach.items (limit tb r.of_type) r.argument
    && is_any_closed_by tb.bound.items (length (parameters_of p r.of_type)) r.argument

abbrev pub field_fits : Parts → Tables → FieldRow → Bool
field_fits p tb r =
    is_within tb.reach.items (limit tb r.of_type) r.annotation
    && is_closed_by tb.bound.items (length (parameters_of p r.of_type)) r.annotation

-- the fields of each type stand together and in order, behind a field of this type and before that index
abbrev pub follows : ℕ → ℕ → FieldRow → Bool
follows t i r = ((r.of_type == t) && (r.index == i)) || (nat_lt t r.of_type && (r.index == 0))

abbrev pub ordered : ℕ → ℕ → List FieldRow → Bool
ordered t i [] = true
ordered t i (r ∷ rs) = follows t i r && ordered r.of_type (suc r.index) rs

-- what is known of the rows of constructors and fields, and of the tables
pub record RowsHold (p : Parts) (tb : Tables) : Type 0 where
  pub variants_apart : told_apart (λ r. r.of_type) (λ r. r.name) [] p.variant_rows ≡ true
  pub fields_apart : told_apart (λ r. r.of_type) (λ r. r.name) [] p.field_rows ≡ true
  pub variants : list_all (variant_fits p tb) p.variant_rows ≡ true
  pub fields : list_all (field_fits p tb) p.field_rows ≡ true
  pub order : ordered 0 0 p.field_rows ≡ true

pub record Worked (p : Parts) (tb : Tables) : Type 0 where
  pub reach : HasReach p tb.reach.items
  pub bound : HasBound p tb.bound.items

-- the rows below the counts are in scope, and no others of types, exceptions and effects; these names are in scope
pub record Agrees (k : Known) (s : Scope) (ns : List ℕ) : Type 0 where
  pub cover : Covers k s
  pub types : (n : ℕ) → nat_le k.types n ≡ true → holds s.types n ≡ false
  pub exceptions : (n : ℕ) → nat_le k.exceptions n ≡ true → holds s.exceptions n ≡ false
  pub effects : (n : ℕ) → nat_le k.effects n ≡ true → holds s.effects n ≡ false
  pub names : s.names ≡ ns

-- the built-in rows are in scope
abbrev pub builtin_known : Known
builtin_known = record {
  types = length builtin_types;
  variants = length builtin_variants;
  fields = 0;
  exceptions = length builtin_exceptions;
  effects = 0;
}

-- an argument is declared in something with so many parameters
abbrev pub argument_test : Tables → Known → Option ℕ → Bool
argument_test tb k a = is_any_reached k tb.reach.items a && is_any_closed_by tb.bound.items 0 a

abbrev pub effect_row_test : Tables → Known → Option EffectRow → Bool
effect_row_test tb k None = false
effect_row_test tb k (Some r) = is_reached k tb.reach.items r.result && argument_test tb k r.argument

abbrev pub effect_test : Parts → Tables → Known → ℕ → Bool
effect_test p tb k e = effect_row_test tb k (slice_get p.effect_rows e)

-- a type is one of so many that are declared together with those before them, and its parameters differ
abbrev pub type_test : Parts → Tables → ℕ → ℕ → Bool
type_test p tb n t = (limit tb t == n) && texts_differ (parameters_of p t)

-- how many elements in front pass a test
abbrev pub front : {X : Type 0} → (X → Bool) → List X → ℕ
front test [] = 0
front test (x ∷ xs) = cond (test x) (suc (front test xs)) 0

-- a type is one of those from one number on and below another
abbrev pub is_between : ℕ → ℕ → ℕ → Bool
is_between low high t = nat_le low t && nat_lt t high

-- what an item declares is in scope behind it, and the rules on it hold
abbrev pub FormLeads : Parts → Tables → Known → ItemForm → Known → Type 0
FormLeads p tb k f later =
    Worked p tb → RowsHold p tb → (s : Scope) → (names : List ℕ) → Agrees k s names
    → (form_scoped p s f ≡ true) × Agrees later (form_declares p f s) names

-- an item keeps the rules, and this is in scope behind it
abbrev pub ItemLeads : Parts → Tables → Known → List ℕ → Item → Known → List ℕ → Type 0
ItemLeads p tb k names i later more =
    Worked p tb → RowsHold p tb → (s : Scope) → Agrees k s names → (item_scoped p s i ≡ true) × Agrees later (behind p i s) more

-- where the later items keep the rules, so do the earlier ones
abbrev pub ItemsLead : Parts → Tables → Known → List ℕ → List Item → Known → List ℕ → List Item → Type 0
ItemsLead p tb k names is later more rest =
    Worked p tb → RowsHold p tb → ((s : Scope) → Agrees later s more → items_scoped p s rest ≡ true)
    → (s : Scope) → Agrees k s names → items_scoped p s is ≡ true
