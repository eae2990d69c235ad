-- What earlier items declare and use stays in scope when an arena grows: its builder may keep the rules item by item.
use Rattle.std.proofs.Common.{◌≡◌, refl, sym, ap, ◌∙◌, ℕ, zero, suc, ◌<◌, Bool, true, false, cond, ◌&&◌, ◌==◌, List, [], ◌∷◌, ◌++◌, map, flat_map, filter, length, slice_get, Option, Some, None, arith}
use Rattle.std.specs.List.{list_all}
use Rattle.effect_meaning.specs.Terms.{Define, Destructure, DefineRec, Evaluate, Place}
use Rattle.effect_meaning.specs.Arena.{Parts, Counts, counts, Need, AType, AnEffectRow, AllMet, EachStands, IsArena, ExceptionStands, EffectStands, ItemStands, item_needs, variant_needs, field_needs, if_any}
use Rattle.effect_meaning.specs.ArenaTrees.{type_at, pattern_at, term_at, item_tree, types_of, patterns_of, terms_of, numbers_from, variants_of, fields_of, place_of}
use Rattle.effect_meaning.specs.Scoped.{Scope, type_declared, type_known, argument_declared, parameters_of, type_name, variant_rows_of, field_rows_of, texts_differ, go_up, variants_scoped, fields_scoped, type_scoped, with_types, rows_new, types_scoped, exception_row_scoped, exception_scoped, effect_row_scoped, effect_scoped, value_of, value_scoped, form_scoped, item_scoped, form_declares, names_of_item, with_names, behind, items_scoped, if_value, holds, names_scoped, first_scope}
use Rattle.effect_meaning.specs.declared.core_tables.TypeRow.{TypeRow}
use Rattle.effect_meaning.specs.declared.core_tables.VariantRow.{VariantRow}
use Rattle.effect_meaning.specs.declared.core_tables.FieldRow.{FieldRow}
use Rattle.effect_meaning.specs.declared.core_tables.ExceptionRow.{ExceptionRow}
use Rattle.effect_meaning.specs.declared.core_tables.EffectRow.{EffectRow}
use Rattle.effect_meaning.specs.declared.core_tables.Item.{Item as ItemOf}
use Rattle.effect_meaning.specs.declared.core_tables.ItemForm.{ItemForm}
use Rattle.effect_meaning.specs.declared.core_tables.ItemForm.TheVariants as item
use Rattle.effect_meaning.specs.declared.core_nodes.TypeExpression.{TypeExpression}
use Rattle.effect_meaning.specs.declared.core_nodes.PatternNode.{PatternNode}
use Rattle.effect_meaning.specs.declared.core_nodes.TermNode.{TermNode}
use Rattle.effect_meaning.proofs.NodeTrees.{both, functions_same}
use Rattle.effect_meaning.proofs.TreesStay.{functions_stay, with_one_type, with_one_pattern, with_one_term, type_kept, pattern_kept, term_kept, patterns_of-type, terms_of-type, terms_of-pattern}

&&-true : (b : Bool) → b && true ≡ true && b
&&-true true = refl
&&-true false = refl

&&-assoc : (a b c : Bool) → a && b && c ≡ a && (b && c)
&&-assoc true b c = refl
&&-assoc false b c = refl

-- the trees of the one arena, and its rows of exceptions and effects, stand in the other under the same numbers
pub record Agrees (p q : Parts) : Type 0 where
  pub types : (t : ℕ) → t < length p.types → type_at (types_of p) t ≡ type_at (types_of q) t
  pub patterns : (x : ℕ) → x < length p.patterns → pattern_at (patterns_of p) x ≡ pattern_at (patterns_of q) x
  pub terms : (x : ℕ) → x < length p.terms → term_at (terms_of p) x ≡ term_at (terms_of q) x
  pub exception_rows : (e : ℕ) → e < length p.exception_rows → slice_get p.exception_rows e ≡ slice_get q.exception_rows e
  pub effect_rows : (e : ℕ) → e < length p.effect_rows → slice_get p.effect_rows e ≡ slice_get q.effect_rows e

-- a type has the same rows in both
pub record Settled (p q : Parts) (t : ℕ) : Type 0 where
  pub name : type_name p t ≡ type_name q t
  pub parameters : parameters_of p t ≡ parameters_of q t
  pub variant_rows : variant_rows_of p t ≡ variant_rows_of q t
  pub field_rows : field_rows_of p t ≡ field_rows_of q t
  pub variants : variants_of p t ≡ variants_of q t
  pub fields : fields_of p t ≡ fields_of q t

abbrev pub AllSettled : Parts → Parts → List ℕ → Type 0
AllSettled p q [] = Unit {0}
AllSettled p q (t ∷ ts) = Settled p q t × AllSettled p q ts

-- so have the types that an item declares
abbrev pub FormSettled : Parts → Parts → ItemForm → Type 0
FormSettled p q (item.Types ts) = AllSettled p q ts
FormSettled p q _ = Unit {0}

abbrev pub ItemsSettled : Parts → Parts → List ItemOf → Type 0
ItemsSettled p q [] = Unit {0}
ItemsSettled p q (i ∷ is) = FormSettled p q i.form × ItemsSettled p q is

-- two tests that agree on a list's elements whose needs are met
module _ {X : Type 0} (needs : X → List Need) (c : Counts) (f g test : X → Bool) (agree : (x : X) → AllMet c (needs x) → f x ≡ g x) where
  pick : (b : Bool) (x : X) (xs : List X) → f x ≡ g x → list_all f xs ≡ list_all g xs → list_all f (cond b (x ∷ xs) xs) ≡ list_all g (cond b (x ∷ xs) xs)
  pick true x xs here rest = both ◌&&◌ here rest
  pick false x xs here rest = rest

  list_all_same : (k : ℕ) (xs : List X) → EachStands (λ c x. AllMet c (needs x)) (λ i. c) k xs → list_all f (filter test xs) ≡ list_all g (filter test xs)
  list_all_same k [] h = refl
  list_all_same k (x ∷ xs) h = pick (test x) x (filter test xs) (agree x h.0) (list_all_same (suc k) xs h.1)

-- the scope behind items
abbrev pub behind_all : Parts → List ItemOf → Scope → Scope
behind_all p [] s = s
behind_all p (i ∷ is) s = behind_all p is (behind p i s)

module _ (p q : Parts) (arena : IsArena p) (agrees : Agrees p q) where
  argument_same : (s : Scope) (n : ℕ) (o : Option ℕ) → AllMet (counts p) (if_any AType o) → argument_declared (types_of p) s n o ≡ argument_declared (types_of q) s n o
  argument_same s n None h = refl
  argument_same s n (Some w) h = ap (type_declared s n) (agrees.types w h.0)

  variants_same : (s : Scope) (t : ℕ) → Settled p q t → variants_scoped p s t ≡ variants_scoped q s t
  variants_same s t h =
      ap (λ b. texts_differ (map (λ r. r.name) (variant_rows_of p t)) && b)
      (list_all_same variant_needs (counts p) (λ r. argument_declared (types_of p) s (length (parameters_of p t)) r.argument)
      (λ r. argument_declared (types_of q) s (length (parameters_of p t)) r.argument) (λ r. r.of_type == t)
      (λ r k. argument_same s (length (parameters_of p t)) r.argument k.1) 0 p.variant_rows arena.variant_rows)
      ∙ ap (λ n. texts_differ (map (λ r. r.name) (variant_rows_of p t)) && list_all (λ r. argument_declared (types_of q) s (length n) r.argument) (variant_rows_of p t)) h.parameters
      ∙ ap (λ rows. texts_differ (map (λ r. r.name) rows) && list_all (λ r. argument_declared (types_of q) s (length (parameters_of q t)) r.argument) rows) h.variant_rows

  fields_same : (s : Scope) (t : ℕ) → Settled p q t → fields_scoped p s t ≡ fields_scoped q s t
  fields_same s t h =
      ap (λ b. texts_differ (map (λ r. r.name) (field_rows_of p t)) && go_up 0 (map (λ r. r.index) (field_rows_of p t)) && b)
      (list_all_same field_needs (counts p) (λ r. type_declared s (length (parameters_of p t)) (type_at (types_of p) r.annotation))
      (λ r. type_declared s (length (parameters_of p t)) (type_at (types_of q) r.annotation)) (λ r. r.of_type == t)
      (λ r k. ap (type_declared s (length (parameters_of p t))) (agrees.types r.annotation k.1.0)) 0 p.field_rows arena.field_rows)
      ∙ ap (λ n. texts_differ (map (λ r. r.name) (field_rows_of p t)) && go_up 0 (map (λ r. r.index) (field_rows_of p t))
      && list_all (λ r. type_declared s (length n) (type_at (types_of q) r.annotation)) (field_rows_of p t)) h.parameters
      ∙ ap (λ rows. texts_differ (map (λ r. r.name) rows) && go_up 0 (map (λ r. r.index) rows)
      && list_all (λ r. type_declared s (length (parameters_of q t)) (type_at (types_of q) r.annotation)) rows) h.field_rows

  type_same : (s : Scope) (t : ℕ) → Settled p q t → type_scoped p s t ≡ type_scoped q s t
  type_same s t h = both ◌&&◌ (both ◌&&◌ (ap texts_differ h.parameters) (variants_same s t h)) (fields_same s t h)

  all_types_same : (s : Scope) (ts : List ℕ) → AllSettled p q ts → list_all (type_scoped p s) ts ≡ list_all (type_scoped q s) ts
  all_types_same s [] h = refl
  all_types_same s (t ∷ ts) h = both ◌&&◌ (type_same s t h.0) (all_types_same s ts h.1)

  names_same : (ts : List ℕ) → AllSettled p q ts → map (type_name p) ts ≡ map (type_name q) ts
  names_same [] h = refl
  names_same (t ∷ ts) h = both (λ x xs. x ∷ xs) h.0.name (names_same ts h.1)

  variant_numbers_same : (ts : List ℕ) → AllSettled p q ts → flat_map (variants_of p) ts ≡ flat_map (variants_of q) ts
  variant_numbers_same [] h = refl
  variant_numbers_same (t ∷ ts) h = both ◌++◌ h.0.variants (variant_numbers_same ts h.1)

  field_numbers_same : (ts : List ℕ) → AllSettled p q ts → flat_map (fields_of p) ts ≡ flat_map (fields_of q) ts
  field_numbers_same [] h = refl
  field_numbers_same (t ∷ ts) h = both ◌++◌ h.0.fields (field_numbers_same ts h.1)

  with_types_same : (ts : List ℕ) (s : Scope) → AllSettled p q ts → with_types p ts s ≡ with_types q ts s
  with_types_same ts s h =
      both (λ vs fs. record s { types = ts ++ s.types; variants = vs ++ s.variants; fields = fs ++ s.fields }) (variant_numbers_same ts h) (field_numbers_same ts h)

  -- an exception and an effect that stand there
  exception_row_same : (s : Scope) (i e : ℕ) (rows : List ExceptionRow) → EachStands ExceptionStands (λ j. counts p) i rows
      → exception_row_scoped (types_of p) s (slice_get rows e) ≡ exception_row_scoped (types_of q) s (slice_get rows e)
  exception_row_same s i e [] h = refl
  exception_row_same s i zero (r ∷ rs) h = argument_same s 0 r.argument h.0
  exception_row_same s i (suc e) (r ∷ rs) h = exception_row_same s (suc i) e rs h.1

  exception_same : (s : Scope) (e : ℕ) → e < length p.exception_rows → exception_scoped p s e ≡ exception_scoped q s e
  exception_same s e h =
      exception_row_same s 0 e p.exception_rows arena.exception_rows ∙ ap (exception_row_scoped (types_of q) s) (agrees.exception_rows e h)

  effect_row_same : (s : Scope) (i e : ℕ) (rows : List EffectRow) → EachStands EffectStands (λ j. counts p) i rows
      → effect_row_scoped (types_of p) s (slice_get rows e) ≡ effect_row_scoped (types_of q) s (slice_get rows e)
  effect_row_same s i e [] h = refl
  effect_row_same s i zero (r ∷ rs) h = both ◌&&◌ (ap (type_known s) (agrees.types r.result h.0.0)) (argument_same s 0 r.argument h.0.1)
  effect_row_same s i (suc e) (r ∷ rs) h = effect_row_same s (suc i) e rs h.1

  effect_same : (s : Scope) (e : ℕ) → e < length p.effect_rows → effect_scoped p s e ≡ effect_scoped q s e
  effect_same s e h = effect_row_same s 0 e p.effect_rows arena.effect_rows ∙ ap (effect_row_scoped (types_of q) s) (agrees.effect_rows e h)

  effects_same : (s : Scope) (es : List ℕ) → AllMet (counts p) (map AnEffectRow es) → list_all (effect_scoped p s) es ≡ list_all (effect_scoped q s) es
  effects_same s [] h = refl
  effects_same s (e ∷ es) h = both ◌&&◌ (effect_same s e h.0) (effects_same s es h.1)

  types_same : (s : Scope) (ts : List ℕ) → AllSettled p q ts → types_scoped p s ts ≡ types_scoped q s ts
  types_same s ts h =
      both ◌&&◌ (ap (λ xs. rows_new s.types ts && texts_differ xs) (names_same ts h))
      (all_types_same (with_types p ts s) ts h ∙ ap (λ z. list_all (type_scoped q z) ts) (with_types_same ts s h))

  form_same : (s : Scope) (f : ItemForm) → AllMet (counts p) (item_needs f) → FormSettled p q f → form_scoped p s f ≡ form_scoped q s f
  form_same s (item.Types ts) h k = types_same s ts k
  form_same s (item.Exception e) h k = ap (λ b. rows_new s.exceptions (e ∷ []) && b) (exception_same s e h.0)
  form_same s (item.Effects extended es) h k = ap (λ b. holds s.types extended && rows_new s.effects es && b) (effects_same s es h.1)
  form_same s (item.Define x a) h k = refl
  form_same s (item.Destructure x a) h k = refl
  form_same s (item.DefineRec functions) h k = refl
  form_same s (item.Evaluate a) h k = refl

  declares_same : (f : ItemForm) (s : Scope) → FormSettled p q f → form_declares p f s ≡ form_declares q f s
  declares_same (item.Types ts) s k = with_types_same ts s k
  declares_same (item.Exception e) s k = refl
  declares_same (item.Effects extended es) s k = refl
  declares_same (item.Define x a) s k = refl
  declares_same (item.Destructure x a) s k = refl
  declares_same (item.DefineRec functions) s k = refl
  declares_same (item.Evaluate a) s k = refl

  tree_same : (at : Place) (f : ItemForm) → AllMet (counts p) (item_needs f)
      → item_tree (types_of p) (patterns_of p) (terms_of p) at f ≡ item_tree (types_of q) (patterns_of q) (terms_of q) at f
  tree_same at (item.Types ts) h = refl
  tree_same at (item.Exception e) h = refl
  tree_same at (item.Effects extended es) h = refl
  tree_same at (item.Define x a) h = ap (λ t. Some (Define x t)) (agrees.terms a h.0)
  tree_same at (item.Destructure x a) h = both (λ r t. Some (Destructure at r t)) (agrees.patterns x h.0) (agrees.terms a h.1.0)
  tree_same at (item.DefineRec functions) h =
      ap (λ fs. Some (DefineRec fs))
      (functions_same (counts p) (types_of p) (patterns_of p) (terms_of p) (terms_of q) agrees.terms functions h
      ∙ functions_stay (counts p) (types_of p) (types_of q) agrees.types (terms_of q) functions h)
  tree_same at (item.Evaluate a) h = ap (λ t. Some (Evaluate t)) (agrees.terms a h.0)

  item_same : (s : Scope) (i : ItemOf) → ItemStands (counts p) i → FormSettled p q i.form → item_scoped p s i ≡ item_scoped q s i
  item_same s i h k =
      ap (λ b. if_value b (value_scoped s) (value_of p i)) (form_same s i.form h k)
      ∙ ap (λ o. if_value (form_scoped q s i.form) (value_scoped s) o) (tree_same (place_of i.place) i.form h)

  behind_same : (s : Scope) (i : ItemOf) → ItemStands (counts p) i → FormSettled p q i.form → behind p i s ≡ behind q i s
  behind_same s i h k =
      both (λ o z. with_names (names_of_item o) z) (tree_same (place_of i.place) i.form h) (declares_same i.form s k)

  -- items that keep the rules in the one arena keep them in the other
  pub items_same : (n : ℕ) (s : Scope) (is : List ItemOf) → EachStands ItemStands (λ j. counts p) n is → ItemsSettled p q is
      → items_scoped p s is ≡ items_scoped q s is
  items_same n s [] h k = refl
  items_same n s (i ∷ is) h k =
      both ◌&&◌ (item_same s i h.0 k.0) (items_same (suc n) (behind p i s) is h.1 k.1 ∙ ap (λ z. items_scoped q z is) (behind_same s i h.0 k.0))

  -- and what stands behind them is in scope in both
  pub behind_all_same : (n : ℕ) (s : Scope) (is : List ItemOf) → EachStands ItemStands (λ j. counts p) n is → ItemsSettled p q is
      → behind_all p is s ≡ behind_all q is s
  behind_all_same n s [] h k = refl
  behind_all_same n s (i ∷ is) h k =
      behind_all_same (suc n) (behind p i s) is h.1 k.1 ∙ ap (λ z. behind_all q is z) (behind_same s i h.0 k.0)

-- one more item keeps the rules where it does so behind those before it
pub items_push : (p : Parts) (s : Scope) (is : List ItemOf) (i : ItemOf)
    → items_scoped p s (is ++ i ∷ []) ≡ items_scoped p s is && item_scoped p (behind_all p is s) i
items_push p s [] i = &&-true (item_scoped p s i)
items_push p s (j ∷ js) i =
    ap (λ b. item_scoped p s j && b) (items_push p (behind p j s) js i)
    ∙ sym (&&-assoc (item_scoped p s j) (items_scoped p (behind p j s) js) (item_scoped p (behind_all p js (behind p j s)) i))

-- where the rows are the same, each type has the same ones
pub settled : (p q : Parts) → p.type_rows ≡ q.type_rows → p.variant_rows ≡ q.variant_rows → p.field_rows ≡ q.field_rows → (t : ℕ) → Settled p q t
settled p q types variants fields t = record {
  name = ap (λ rows. type_name (record p { type_rows = rows }) t) types;
  parameters = ap (λ rows. parameters_of (record p { type_rows = rows }) t) types;
  variant_rows = ap (λ rows. variant_rows_of (record p { variant_rows = rows }) t) variants;
  field_rows = ap (λ rows. field_rows_of (record p { field_rows = rows }) t) fields;
  variants = ap (λ rows. variants_of (record p { variant_rows = rows }) t) variants;
  fields = ap (λ rows. fields_of (record p { field_rows = rows }) t) fields;
}

module _ (p q : Parts) (each : (t : ℕ) → Settled p q t) where
  all_settled : (ts : List ℕ) → AllSettled p q ts
  all_settled [] = tt
  all_settled (t ∷ ts) = (each t, all_settled ts)

  form_settled : (f : ItemForm) → FormSettled p q f
  form_settled (item.Types ts) = all_settled ts
  form_settled (item.Exception e) = tt
  form_settled (item.Effects extended es) = tt
  form_settled (item.Define x a) = tt
  form_settled (item.Destructure x a) = tt
  form_settled (item.DefineRec functions) = tt
  form_settled (item.Evaluate a) = tt

  pub items_settled : (is : List ItemOf) → ItemsSettled p q is
  items_settled [] = tt
  items_settled (i ∷ is) = (form_settled i.form, items_settled is)

-- a further type, pattern or term changes nothing that the items before it keep
pub scoped_with_type : (p : Parts) (x : TypeExpression) → IsArena p → (s : Scope)
    → items_scoped p s p.items ≡ items_scoped (with_one_type p x) s p.items
scoped_with_type p x h s =
    items_same p (with_one_type p x) h (record {
      types = type_kept p x;
      patterns = λ i k. ap (λ qs. pattern_at qs i) (sym (patterns_of-type p x h));
      terms = λ i k. ap (λ ts. term_at ts i) (sym (terms_of-type p x h));
      exception_rows = λ e k. refl;
      effect_rows = λ e k. refl;
    }) 0 s p.items h.items (items_settled p (with_one_type p x) (settled p (with_one_type p x) refl refl refl) p.items)

pub scoped_with_pattern : (p : Parts) (x : PatternNode) → IsArena p → (s : Scope)
    → items_scoped p s p.items ≡ items_scoped (with_one_pattern p x) s p.items
scoped_with_pattern p x h s =
    items_same p (with_one_pattern p x) h (record {
      types = λ t k. refl;
      patterns = pattern_kept p x;
      terms = λ i k. ap (λ ts. term_at ts i) (sym (terms_of-pattern p x h));
      exception_rows = λ e k. refl;
      effect_rows = λ e k. refl;
    }) 0 s p.items h.items (items_settled p (with_one_pattern p x) (settled p (with_one_pattern p x) refl refl refl) p.items)

pub scoped_with_term : (p : Parts) (x : TermNode) → IsArena p → (s : Scope)
    → items_scoped p s p.items ≡ items_scoped (with_one_term p x) s p.items
scoped_with_term p x h s =
    items_same p (with_one_term p x) h (record {
      types = λ t k. refl;
      patterns = λ i k. refl;
      terms = term_kept p x;
      exception_rows = λ e k. refl;
      effect_rows = λ e k. refl;
    }) 0 s p.items h.items (items_settled p (with_one_term p x) (settled p (with_one_term p x) refl refl refl) p.items)

-- what stands in a list stands in a longer one
get_append : {X : Type 0} (xs ys : List X) (i : ℕ) → i < length xs → slice_get xs i ≡ slice_get (xs ++ ys) i
get_append [] ys i h = absurd (omega (arith, h))
get_append (x ∷ xs) ys zero h = refl
get_append (x ∷ xs) ys (suc i) h = let less : i < length xs = omega (arith, h) in get_append xs ys i less

-- an element that fails a test adds nothing to those that pass
filter_skip : {X : Type 0} (test : X → Bool) (xs : List X) (x : X) → test x ≡ false → filter test xs ≡ filter test (xs ++ x ∷ [])
filter_skip test [] x h = ap (λ b. cond b (x ∷ []) []) (sym h)
filter_skip test (y ∷ ys) x h = ap (λ l. cond (test y) (y ∷ l) l) (filter_skip test ys x h)

numbers_skip : {X : Type 0} (test : X → Bool) (i : ℕ) (xs : List X) (x : X) → test x ≡ false
    → numbers_from i test xs ≡ numbers_from i test (xs ++ x ∷ [])
numbers_skip test i [] x h = ap (λ b. cond b (i ∷ []) []) (sym h)
numbers_skip test i (y ∷ ys) x h = ap (λ l. cond (test y) (i ∷ l) l) (numbers_skip test (suc i) ys x h)

abbrev pub with_one_type_row : Parts → TypeRow → Parts
with_one_type_row p x = record p { type_rows = p.type_rows ++ x ∷ [] }

abbrev pub with_one_variant_row : Parts → VariantRow → Parts
with_one_variant_row p x = record p { variant_rows = p.variant_rows ++ x ∷ [] }

abbrev pub with_one_field_row : Parts → FieldRow → Parts
with_one_field_row p x = record p { field_rows = p.field_rows ++ x ∷ [] }

abbrev pub with_one_exception_row : Parts → ExceptionRow → Parts
with_one_exception_row p x = record p { exception_rows = p.exception_rows ++ x ∷ [] }

abbrev pub with_one_effect_row : Parts → EffectRow → Parts
with_one_effect_row p x = record p { effect_rows = p.effect_rows ++ x ∷ [] }

-- a further type changes none that has a row
pub settled_with_type_row : (p : Parts) (x : TypeRow) (t : ℕ) → t < length p.type_rows → Settled p (with_one_type_row p x) t
settled_with_type_row p x t h = record {
  name = ap (λ o. elim o [ Some r ↦ r.name | None ↦ [] ]) (get_append p.type_rows (x ∷ []) t h);
  parameters = ap (λ o. elim o [ Some r ↦ r.parameters | None ↦ [] ]) (get_append p.type_rows (x ∷ []) t h);
  variant_rows = refl;
  field_rows = refl;
  variants = refl;
  fields = refl;
}

-- a further constructor and a further field change no other type
pub settled_with_variant_row : (p : Parts) (x : VariantRow) (t : ℕ) → (x.of_type == t) ≡ false → Settled p (with_one_variant_row p x) t
settled_with_variant_row p x t h = record {
  name = refl;
  parameters = refl;
  variant_rows = filter_skip (λ r. r.of_type == t) p.variant_rows x h;
  field_rows = refl;
  variants = numbers_skip (λ r. r.of_type == t) 0 p.variant_rows x h;
  fields = refl;
}

pub settled_with_field_row : (p : Parts) (x : FieldRow) (t : ℕ) → (x.of_type == t) ≡ false → Settled p (with_one_field_row p x) t
settled_with_field_row p x t h = record {
  name = refl;
  parameters = refl;
  variant_rows = refl;
  field_rows = filter_skip (λ r. r.of_type == t) p.field_rows x h;
  variants = refl;
  fields = numbers_skip (λ r. r.of_type == t) 0 p.field_rows x h;
}

-- a further row of a type changes nothing of items whose types are settled
module _ (p q : Parts) (types : p.types ≡ q.types) (patterns : p.patterns ≡ q.patterns) (terms : p.terms ≡ q.terms)
    (exceptions : p.exception_rows ≡ q.exception_rows) (effects : p.effect_rows ≡ q.effect_rows) where
  pub agrees_in_nodes : Agrees p q
  agrees_in_nodes = record {
    types = λ t k. ap (λ ns. type_at (types_of (record p { types = ns })) t) types;
    patterns = λ x k.
        both (λ ns ms. pattern_at (patterns_of (record p { types = ns; patterns = ms })) x) types patterns;
    terms = λ x k.
        ap (λ ls. term_at (terms_of (record p { terms = ls })) x) terms
        ∙ both (λ ns ms. term_at (terms_of (record q { types = ns; patterns = ms })) x) types patterns;
    exception_rows = λ e k. ap (λ rows. slice_get rows e) exceptions;
    effect_rows = λ e k. ap (λ rows. slice_get rows e) effects;
  }

-- a further exception and a further effect change nothing that the items before them keep
pub scoped_with_exception_row : (p : Parts) (x : ExceptionRow) → IsArena p → (s : Scope)
    → items_scoped p s p.items ≡ items_scoped (with_one_exception_row p x) s p.items
scoped_with_exception_row p x h s =
    items_same p (with_one_exception_row p x) h (record {
      types = λ t k. refl;
      patterns = λ i k. refl;
      terms = λ i k. refl;
      exception_rows = λ e k. get_append p.exception_rows (x ∷ []) e k;
      effect_rows = λ e k. refl;
    }) 0 s p.items h.items
    (items_settled p (with_one_exception_row p x) (settled p (with_one_exception_row p x) refl refl refl) p.items)

pub scoped_with_effect_row : (p : Parts) (x : EffectRow) → IsArena p → (s : Scope)
    → items_scoped p s p.items ≡ items_scoped (with_one_effect_row p x) s p.items
scoped_with_effect_row p x h s =
    items_same p (with_one_effect_row p x) h (record {
      types = λ t k. refl;
      patterns = λ i k. refl;
      terms = λ i k. refl;
      exception_rows = λ e k. refl;
      effect_rows = λ e k. get_append p.effect_rows (x ∷ []) e k;
    }) 0 s p.items h.items
    (items_settled p (with_one_effect_row p x) (settled p (with_one_effect_row p x) refl refl refl) p.items)

abbrev pub with_one_item : Parts → ItemOf → Parts
with_one_item p i = record p { items = p.items ++ i ∷ [] }

-- a program with a further item keeps the rules where it does without it, and the item does behind the others
pub names_scoped-item : (p : Parts) (i : ItemOf) → IsArena p
    → names_scoped (with_one_item p i) ≡ names_scoped p && item_scoped (with_one_item p i) (behind_all (with_one_item p i) p.items first_scope) i
names_scoped-item p i h =
    items_push (with_one_item p i) first_scope p.items i
    ∙ ap (λ b. b && item_scoped (with_one_item p i) (behind_all (with_one_item p i) p.items first_scope) i) (sym same)
  where
    same : items_scoped p first_scope p.items ≡ items_scoped (with_one_item p i) first_scope p.items
    same = items_same p (with_one_item p i) h (agrees_in_nodes p (with_one_item p i) refl refl refl refl refl)
        0 first_scope p.items h.items (items_settled p (with_one_item p i) (settled p (with_one_item p i) refl refl refl) p.items)
