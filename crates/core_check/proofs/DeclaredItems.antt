-- An item that passes its tests keeps the rules, and what it declares is in scope behind it.
use Rattle.std.proofs.Common.{◌≡◌, refl, sym, ap, ◌∙◌, subst, ℕ, ◌+◌, Bool, true, false, ◌&&◌, ◌==◌, nat_lt, nat_le, List, [], ◌∷◌, ◌++◌, map, drop, length, slice_get, Option, Some, None, arith}
use Rattle.std.specs.List.{list_all}
use Rattle.effect_meaning.specs.Terms.{Item}
use Rattle.effect_meaning.specs.Arena.{Parts}
use Rattle.effect_meaning.specs.ArenaTrees.{type_at, types_of, place_of}
use Rattle.effect_meaning.specs.Builtins.{builtin_types, builtin_variants, builtin_exceptions}
use Rattle.effect_meaning.specs.Scoped.{Scope, holds, go_up, texts_differ, type_known, is_closed, type_declared, argument_declared, parameters_of, type_name, variant_rows_of, field_rows_of, variants_scoped, fields_scoped, type_scoped, with_types, with_exceptions, with_effects, rows_new, exception_row_scoped, exception_scoped, effect_row_scoped, effect_scoped, if_value, value_of, value_scoped, names_of_item, form_scoped, form_declares, item_scoped, items_scoped, behind, first_scope}
use Rattle.effect_meaning.specs.declared.core_tables.ExceptionRow.{ExceptionRow}
use Rattle.effect_meaning.specs.declared.core_tables.EffectRow.{EffectRow}
use Rattle.effect_meaning.specs.declared.core_tables.Item.{Item as ItemOf}
use Rattle.effect_meaning.specs.declared.core_tables.ItemForm.{ItemForm}
use Rattle.effect_meaning.specs.declared.core_tables.ItemForm.TheVariants as item
use Rattle.core_check.specs.declared.known.Known.{Known}
use Rattle.core_check.specs.declared.tables.Tables.{Tables}
use Rattle.core_check.specs.Walk.{at, Covers, HasReach, is_within, is_any_within, is_reached, is_any_reached}
use Rattle.core_check.specs.Effects.{is_closed_by, is_any_closed_by}
use Rattle.core_check.specs.Texts.{told_apart}
use Rattle.core_check.specs.Items.{ValueLeads}
use Rattle.core_check.specs.Declares.{limit, variant_fits, field_fits, RowsHold, Worked, Agrees, argument_test, effect_row_test, effect_test, type_test, builtin_known, front, is_between, FormLeads, ItemLeads, ItemsLead}
use Rattle.core_check.proofs.Lists.{and_true}
use Rattle.core_check.proofs.Apart.{apart_each, apart_all}
use Rattle.core_check.proofs.Counted.{rows_new_behind, within_behind, none_behind, owned_behind, holds_below}
use Rattle.core_check.proofs.Ordered.{kept_all, each_all, places_go_up}
use Rattle.core_check.proofs.Steps.{reached}
use Rattle.core_check.proofs.TypedEffects.{closed_by}

module _ (p : Parts) (tb : Tables) (worked : Worked p tb) where
  -- a type that passes the tests is declared
  type_ok : (k : Known) (s : Scope) → Covers k s → (n t : ℕ) → is_reached k tb.reach.items t ≡ true → is_closed_by tb.bound.items n t ≡ true
      → type_declared s n (type_at (types_of p) t) ≡ true
  type_ok k s cover n t h g =
      and_true {a = type_known s (type_at (types_of p) t)} {b = is_closed n (type_at (types_of p) t)}
      (reached k s cover p tb.reach.items worked.reach t h) (closed_by p tb.bound.items worked.bound n t g)

  argument_ok : (k : Known) (s : Scope) → Covers k s → (n : ℕ) (t : Option ℕ) → is_any_reached k tb.reach.items t ≡ true
      → is_any_closed_by tb.bound.items n t ≡ true → argument_declared (types_of p) s n t ≡ true
  argument_ok k s cover n None h g = refl
  argument_ok k s cover n (Some t) h g = type_ok k s cover n t h g

  exception_row_ok : (k : Known) (s : Scope) → Covers k s → (r : ExceptionRow) → argument_test tb k r.argument ≡ true
      → argument_declared (types_of p) s 0 r.argument ≡ true
  exception_row_ok k s cover r h =
      let one : is_any_reached k tb.reach.items r.argument ≡ true = grind arith in
      let two : is_any_closed_by tb.bound.items 0 r.argument ≡ true = grind arith in
      argument_ok k s cover 0 r.argument one two

  effect_row_ok : (k : Known) (s : Scope) → Covers k s → (r : Option EffectRow) → effect_row_test tb k r ≡ true
      → effect_row_scoped (types_of p) s r ≡ true
  effect_row_ok k s cover None h = h
  effect_row_ok k s cover (Some r) h =
      let result : is_reached k tb.reach.items r.result ≡ true = grind arith in
      let one : is_any_reached k tb.reach.items r.argument ≡ true = grind arith in
      let two : is_any_closed_by tb.bound.items 0 r.argument ≡ true = grind arith in
      and_true {a = type_known s (type_at (types_of p) r.result)} {b = argument_declared (types_of p) s 0 r.argument}
      (reached k s cover p tb.reach.items worked.reach r.result result) (argument_ok k s cover 0 r.argument one two)

  module _ (rows : RowsHold p tb) (k : Known) (s : Scope) (cover : Covers k s) where
    -- the constructors and the fields of a type that is declared with those up to the count
    variants_ok : (t : ℕ) → limit tb t ≡ k.types → variants_scoped p s t ≡ true
    variants_ok t last =
        let N : ℕ = length (parameters_of p t) in
        let apart : texts_differ (map (λ r. r.name) (variant_rows_of p t)) ≡ true =
        apart_each (λ r. r.of_type) (λ r. r.name) t [] p.variant_rows rows.variants_apart in
        let declared : list_all (λ r. argument_declared (types_of p) s N r.argument) (variant_rows_of p t) ≡ true =
        kept_all (λ r. r.of_type == t) (variant_fits p tb) (λ r. argument_declared (types_of p) s N r.argument)
        (λ r e h.
        let is : r.of_type ≡ t = grind arith in
        let low : is_any_within tb.reach.items (limit tb r.of_type) r.argument ≡ true = grind arith in
        let closed : is_any_closed_by tb.bound.items (length (parameters_of p r.of_type)) r.argument ≡ true = grind arith in
        argument_ok k s cover N r.argument
        (subst (λ n. is_any_within tb.reach.items n r.argument ≡ true) (ap (limit tb) is ∙ last) low)
        (subst (λ u. is_any_closed_by tb.bound.items (length (parameters_of p u)) r.argument ≡ true) is closed))
        p.variant_rows rows.variants in
        and_true {a = texts_differ (map (λ r. r.name) (variant_rows_of p t))}
        {b = list_all (λ r. argument_declared (types_of p) s N r.argument) (variant_rows_of p t)} apart declared

    fields_ok : (t : ℕ) → limit tb t ≡ k.types → fields_scoped p s t ≡ true
    fields_ok t last =
        let N : ℕ = length (parameters_of p t) in
        let A : Bool = texts_differ (map (λ r. r.name) (field_rows_of p t)) in
        let U : Bool = go_up 0 (map (λ r. r.index) (field_rows_of p t)) in
        let D : Bool = list_all (λ r. type_declared s N (type_at (types_of p) r.annotation)) (field_rows_of p t) in
        let apart : A ≡ true = apart_each (λ r. r.of_type) (λ r. r.name) t [] p.field_rows rows.fields_apart in
        let up : U ≡ true = places_go_up t p.field_rows rows.order in
        let declared : D ≡ true =
        kept_all (λ r. r.of_type == t) (field_fits p tb) (λ r. type_declared s N (type_at (types_of p) r.annotation))
        (λ r e h.
        let is : r.of_type ≡ t = grind arith in
        let low : is_within tb.reach.items (limit tb r.of_type) r.annotation ≡ true = grind arith in
        let closed : is_closed_by tb.bound.items (length (parameters_of p r.of_type)) r.annotation ≡ true = grind arith in
        type_ok k s cover N r.annotation
        (subst (λ n. is_within tb.reach.items n r.annotation ≡ true) (ap (limit tb) is ∙ last) low)
        (subst (λ u. is_closed_by tb.bound.items (length (parameters_of p u)) r.annotation ≡ true) is closed))
        p.field_rows rows.fields in
        and_true {a = A && U} {b = D} (and_true {a = A} {b = U} apart up) declared

    type_scoped_ok : (t : ℕ) → type_test p tb k.types t ≡ true → type_scoped p s t ≡ true
    type_scoped_ok t h =
        let last : limit tb t ≡ k.types = grind arith in
        let apart : texts_differ (parameters_of p t) ≡ true = grind arith in
        and_true {a = texts_differ (parameters_of p t) && variants_scoped p s t} {b = fields_scoped p s t}
        (and_true {a = texts_differ (parameters_of p t)} {b = variants_scoped p s t} apart (variants_ok t last)) (fields_ok t last)

-- an exception
pub exception_leads : (p : Parts) (tb : Tables) (k later : Known) (row : ℕ) (r : ExceptionRow)
    → row ≡ k.exceptions → slice_get p.exception_rows row ≡ Some r → argument_test tb k r.argument ≡ true
    → later ≡ record k { exceptions = row + 1 }
    → FormLeads p tb k (item.Exception row) later
exception_leads p tb k later row r first is test made worked rows s names agrees =
    let up : go_up k.exceptions (row ∷ []) ≡ true = grind arith in
    let new : rows_new s.exceptions (row ∷ []) ≡ true = rows_new_behind k.exceptions s.exceptions (row ∷ []) agrees.exceptions up in
    let scoped : exception_scoped p s row ≡ true =
    ap (exception_row_scoped (types_of p) s) is ∙ exception_row_ok p tb worked k s agrees.cover r test in
    let count : row + 1 ≡ k.exceptions + length (row ∷ []) = grind arith in
    let next : Known = record k { exceptions = k.exceptions + length (row ∷ []) } in
    let becomes : next ≡ later = ap (λ n. record k { exceptions = n }) (sym count) ∙ sym made in (
      and_true {a = rows_new s.exceptions (row ∷ [])} {b = exception_scoped p s row} new scoped,
      subst (λ n. Agrees n (with_exceptions (row ∷ []) s) names) becomes (record {
        cover = record {
          types = agrees.cover.types;
          variants = agrees.cover.variants;
          fields = agrees.cover.fields;
          exceptions = within_behind k.exceptions s.exceptions (row ∷ []) agrees.cover.exceptions up;
          effects = agrees.cover.effects;
        };
        types = agrees.types;
        exceptions = none_behind k.exceptions s.exceptions (row ∷ []) agrees.exceptions up;
        effects = agrees.effects;
        names = agrees.names;
      }),
    )

-- the effects of an item
pub effects_lead : (p : Parts) (tb : Tables) (k later : Known) (extended : ℕ) (es : List ℕ)
    → nat_lt extended k.types ≡ true → go_up k.effects es ≡ true → list_all (effect_test p tb k) es ≡ true
    → later ≡ record k { effects = k.effects + length es }
    → FormLeads p tb k (item.Effects extended es) later
effects_lead p tb k later extended es there up test made worked rows s names agrees =
    let known : holds s.types extended ≡ true = agrees.cover.types extended there in
    let new : rows_new s.effects es ≡ true = rows_new_behind k.effects s.effects es agrees.effects up in
    let scoped : list_all (effect_scoped p s) es ≡ true =
    each_all (effect_test p tb k) (effect_scoped p s) (λ e h. effect_row_ok p tb worked k s agrees.cover (slice_get p.effect_rows e) h) es test in (
      and_true {a = holds s.types extended && rows_new s.effects es} {b = list_all (effect_scoped p s) es}
          (and_true {a = holds s.types extended} {b = rows_new s.effects es} known new) scoped,
      subst (λ n. Agrees n (with_effects es s) names) (sym made) (record {
        cover = record {
          types = agrees.cover.types;
          variants = agrees.cover.variants;
          fields = agrees.cover.fields;
          exceptions = agrees.cover.exceptions;
          effects = within_behind k.effects s.effects es agrees.cover.effects up;
        };
        types = agrees.types;
        exceptions = agrees.exceptions;
        effects = none_behind k.effects s.effects es agrees.effects up;
        names = agrees.names;
      }),
    )

-- the types of an item
pub types_lead : (p : Parts) (tb : Tables) (k later : Known) (ts : List ℕ)
    → go_up k.types ts ≡ true → told_apart (λ t. 0) (type_name p) [] ts ≡ true
    → list_all (type_test p tb (k.types + length ts)) ts ≡ true
    → later.types ≡ k.types + length ts
    → later.variants ≡ k.variants + front (λ r. is_between k.types (k.types + length ts) r.of_type) (drop k.variants p.variant_rows)
    → later.fields ≡ k.fields + front (λ r. is_between k.types (k.types + length ts) r.of_type) (drop k.fields p.field_rows)
    → later.exceptions ≡ k.exceptions → later.effects ≡ k.effects
    → FormLeads p tb k (item.Types ts) later
types_lead p tb k later ts up apart test types variants fields exceptions effects worked rows s names agrees =
    let behind : Agrees later (with_types p ts s) names = record {
      cover = record {
        types = λ n h. within_behind k.types s.types ts agrees.cover.types up n (subst (λ m. nat_lt n m ≡ true) types h);
        variants = λ n h. owned_behind (λ r. r.of_type) p.variant_rows k.variants k.types ts s.variants agrees.cover.variants up n
            (subst (λ m. nat_lt n m ≡ true) variants h);
        fields = λ n h. owned_behind (λ r. r.of_type) p.field_rows k.fields k.types ts s.fields agrees.cover.fields up n
            (subst (λ m. nat_lt n m ≡ true) fields h);
        exceptions = λ n h. agrees.cover.exceptions n (subst (λ m. nat_lt n m ≡ true) exceptions h);
        effects = λ n h. agrees.cover.effects n (subst (λ m. nat_lt n m ≡ true) effects h);
      };
      types = λ n h. none_behind k.types s.types ts agrees.types up n (subst (λ m. nat_le m n ≡ true) types h);
      exceptions = λ n h. agrees.exceptions n (subst (λ m. nat_le m n ≡ true) exceptions h);
      effects = λ n h. agrees.effects n (subst (λ m. nat_le m n ≡ true) effects h);
      names = agrees.names;
    } in
    let new : rows_new s.types ts ≡ true = rows_new_behind k.types s.types ts agrees.types up in
    let named : texts_differ (map (type_name p) ts) ≡ true = apart_all (type_name p) ts apart in
    let tested : list_all (type_test p tb later.types) ts ≡ true = subst (λ n. list_all (type_test p tb n) ts ≡ true) (sym types) test in
    let scoped : list_all (type_scoped p (with_types p ts s)) ts ≡ true =
    each_all (type_test p tb later.types) (type_scoped p (with_types p ts s))
    (type_scoped_ok p tb worked rows later (with_types p ts s) behind.cover) ts tested in (
      and_true {a = rows_new s.types ts && texts_differ (map (type_name p) ts)} {b = list_all (type_scoped p (with_types p ts s)) ts}
          (and_true {a = rows_new s.types ts} {b = texts_differ (map (type_name p) ts)} new named) scoped,
      behind,
    )

-- an item of another form declares nothing else
pub plain_leads : (p : Parts) (tb : Tables) (k : Known) (f : ItemForm)
    → ((s : Scope) → (form_scoped p s f ≡ true) × (form_declares p f s ≡ s)) → FormLeads p tb k f k
plain_leads p tb k f plain worked rows s names agrees = ((plain s).0, subst (λ t. Agrees k t names) (sym (plain s).1) agrees)

-- the item's value, if there is one, or else what it declares
value_or : (b : Bool) (test : Item → Bool) (i : Option Item) → b ≡ true → if_value true test i ≡ true → if_value b test i ≡ true
value_or b test None h g = h
value_or b test (Some i) h g = g

-- an item whose declarations and whose value keep the rules keeps them
pub item_leads : (p : Parts) (tb : Tables) (k later : Known) (i : ItemOf) (names more : List ℕ)
    → FormLeads p tb k i.form later
    → ((s : Scope) → Covers k s → HasReach p tb.reach.items → ValueLeads p s names i.form more)
    → ItemLeads p tb k names i later more
item_leads p tb k later i names more form value worked rows s agrees =
    let F = form worked rows s names agrees in
    let V = value s agrees.cover worked.reach (place_of i.place) in
    let N : List ℕ = names_of_item (value_of p i) in
    let scoped : if_value true (value_scoped s) (value_of p i) ≡ true =
    subst (λ ns. if_value true (value_scoped (at s ns)) (value_of p i) ≡ true) (sym agrees.names) V.0 in
    let after : Agrees later (form_declares p i.form s) names = F.1 in (
      value_or (form_scoped p s i.form) (value_scoped s) (value_of p i) F.0 scoped,
      record {
        cover = record {
          types = after.cover.types;
          variants = after.cover.variants;
          fields = after.cover.fields;
          exceptions = after.cover.exceptions;
          effects = after.cover.effects;
        };
        types = after.types;
        exceptions = after.exceptions;
        effects = after.effects;
        names = ap (λ ns. N ++ ns) after.names ∙ sym V.1;
      },
    )

-- the item in front of others
pub items_lead : (p : Parts) (tb : Tables) (k now later : Known) (names had more : List ℕ) (is : List ItemOf) (i : ItemOf) (rest : List ItemOf)
    → ItemsLead p tb k names is now had (i ∷ rest) → ItemLeads p tb now had i later more
    → ItemsLead p tb k names is later more rest
items_lead p tb k now later names had more is i rest before one worked rows others =
    before worked rows (λ s agrees.
    let r = one worked rows s agrees in
    and_true {a = item_scoped p s i} {b = items_scoped p (behind p i s) rest} r.0 (others (behind p i s) r.1))

-- the built-in rows are in scope in front of all items
pub first_agrees : Agrees builtin_known first_scope []
first_agrees = record {
  cover = record {
    types = λ n h. holds_below (length builtin_types) n ∙ h;
    variants = λ n h. holds_below (length builtin_variants) n ∙ h;
    fields = λ n h. absurd (grind arith);
    exceptions = λ n h. holds_below (length builtin_exceptions) n ∙ h;
    effects = λ n h. absurd (grind arith);
  };
  types = λ n h. let out : nat_lt n (length builtin_types) ≡ false = grind arith in holds_below (length builtin_types) n ∙ out;
  exceptions = λ n h. let out : nat_lt n (length builtin_exceptions) ≡ false = grind arith in holds_below (length builtin_exceptions) n ∙ out;
  effects = λ n h. refl;
  names = refl;
}
