-- The rules on names and on the types of effects, as tests that compute. A name, a type, a constructor, a field, an
-- exception and an effect are numbers; what is called by a text in the tables is told apart by it.
use Rattle.std.specs.Prelude.{ℕ, zero, suc, Bool, true, false, not, ◌&&◌, nat_lt, ◌==◌, List, [], ◌∷◌, ◌++◌, map, flat_map, filter, length, slice_get, Option, Some, None, IsTrue}
use Rattle.std.specs.List.{list_any, list_all}
use Rattle.effect_meaning.specs.Terms.{Written, Variable, Any, Applied, Writtens, NoTypes, AndType, Constructor, Variant, Exception, Effect, Pattern, AnyPat, NamePat, ConstPat, TuplePat, ConPat, ConOfPat, RecordPat, OrPat, AliasPat, AnnotPat, Patterns, NoPatterns, AndPattern, Term, Var, Const, Fun, App, Let, LetRec, Seq, If, Match, Tuple, Con, ConOf, Record, Array, Field, SetField, Prim, Catch, Handle, Annot, Terms, NoTerms, AndTerm, Functions, NoFunctions, AndFunction, Clauses, NoClauses, AndClause, Guard, NoGuard, When, EffectClauses, NoEffects, AndEffect, Item, Define, Destructure, DefineRec, Evaluate}
use Rattle.effect_meaning.specs.Builtins.{builtin_types, builtin_variants, builtin_exceptions}
use Rattle.effect_meaning.specs.declared.core_tables.VariantRow.{VariantRow}
use Rattle.effect_meaning.specs.declared.core_tables.FieldRow.{FieldRow}
use Rattle.effect_meaning.specs.declared.core_tables.ExceptionRow.{ExceptionRow}
use Rattle.effect_meaning.specs.declared.core_tables.EffectRow.{EffectRow}
use Rattle.effect_meaning.specs.declared.core_tables.Item.{Item as ItemOf}
use Rattle.effect_meaning.specs.declared.core_tables.ItemForm.{ItemForm}
use Rattle.effect_meaning.specs.declared.core_tables.ItemForm.TheVariants as item
use Rattle.effect_meaning.specs.Arena.{Parts}
use Rattle.effect_meaning.specs.ArenaTrees.{type_at, types_of, patterns_of, terms_of, variants_of, fields_of, place_of, item_tree}

-- what is in scope: numbers of types, constructors, fields, exceptions, effects and names
pub record Scope : Type 0 where
  pub types : List ℕ
  pub variants : List ℕ
  pub fields : List ℕ
  pub exceptions : List ℕ
  pub effects : List ℕ
  pub names : List ℕ

abbrev pub holds : List ℕ → ℕ → Bool
holds xs x = list_any (λ y. x == y) xs

-- no number stands there twice
abbrev pub differ : List ℕ → Bool
differ [] = true
differ (x ∷ xs) = not (holds xs x) && differ xs

-- both lists hold the same numbers
abbrev pub same : List ℕ → List ℕ → Bool
same xs ys = list_all (holds ys) xs && list_all (holds xs) ys

abbrev pub same_text : List ℕ → List ℕ → Bool
same_text [] [] = true
same_text [] (c ∷ cs) = false
same_text (b ∷ bs) [] = false
same_text (b ∷ bs) (c ∷ cs) = (b == c) && same_text bs cs

-- no text stands there twice
abbrev pub texts_differ : List (List ℕ) → Bool
texts_differ [] = true
texts_differ (t ∷ ts) = not (list_any (same_text t) ts) && texts_differ ts

-- a name is new where no name in scope has its number, so that it hides none
abbrev pub is_new : Scope → ℕ → Bool
is_new s x = not (holds s.names x)

abbrev pub with_names : List ℕ → Scope → Scope
with_names xs s = record s { names = xs ++ s.names }

abbrev pub constructor_known : Scope → Constructor → Bool
constructor_known s (Variant n) = holds s.variants n
constructor_known s (Exception n) = holds s.exceptions n
constructor_known s (Effect n) = holds s.effects n

-- each type that is named in a written type is in scope
abbrev mutual
  pub type_known : Scope → Written → Bool
  type_known s (Variable v) = true
  type_known s Any = true
  type_known s (Applied t ws) = holds s.types t && types_known s ws

  pub types_known : Scope → Writtens → Bool
  types_known s NoTypes = true
  types_known s (AndType w ws) = type_known s w && types_known s ws

-- a written type has no blank and only the variables of so many parameters
abbrev mutual
  pub is_closed : ℕ → Written → Bool
  is_closed n (Variable v) = nat_lt v n
  is_closed n Any = false
  is_closed n (Applied t ws) = all_closed n ws

  pub all_closed : ℕ → Writtens → Bool
  all_closed n NoTypes = true
  all_closed n (AndType w ws) = is_closed n w && all_closed n ws

-- a type in the declaration of something with so many parameters
abbrev pub type_declared : Scope → ℕ → Written → Bool
type_declared s n w = type_known s w && is_closed n w

-- the names that a pattern binds, from the left; both sides of an or-pattern bind the left one's
abbrev mutual
  pub names_in : Pattern → List ℕ
  names_in AnyPat = []
  names_in (NamePat x) = x ∷ []
  names_in (ConstPat c) = []
  names_in (TuplePat qs) = names_in_all qs
  names_in (ConPat con) = []
  names_in (ConOfPat con q) = names_in q
  names_in (RecordPat fields qs) = names_in_all qs
  names_in (OrPat left right) = names_in left
  names_in (AliasPat q x) = names_in q ++ x ∷ []
  names_in (AnnotPat q w) = names_in q

  pub names_in_all : Patterns → List ℕ
  names_in_all NoPatterns = []
  names_in_all (AndPattern q qs) = names_in q ++ names_in_all qs

-- both sides of each or-pattern bind the same names, and neither binds one twice
abbrev mutual
  pub sides_agree : Pattern → Bool
  sides_agree AnyPat = true
  sides_agree (NamePat x) = true
  sides_agree (ConstPat c) = true
  sides_agree (TuplePat qs) = all_sides_agree qs
  sides_agree (ConPat con) = true
  sides_agree (ConOfPat con q) = sides_agree q
  sides_agree (RecordPat fields qs) = all_sides_agree qs
  sides_agree (OrPat left right) =
      sides_agree left && sides_agree right && differ (names_in right) && same (names_in left) (names_in right)
  sides_agree (AliasPat q x) = sides_agree q
  sides_agree (AnnotPat q w) = sides_agree q

  pub all_sides_agree : Patterns → Bool
  all_sides_agree NoPatterns = true
  all_sides_agree (AndPattern q qs) = sides_agree q && all_sides_agree qs

-- each constructor, field and type of a pattern is in scope
abbrev mutual
  pub pattern_known : Scope → Pattern → Bool
  pattern_known s AnyPat = true
  pattern_known s (NamePat x) = true
  pattern_known s (ConstPat c) = true
  pattern_known s (TuplePat qs) = patterns_known s qs
  pattern_known s (ConPat con) = constructor_known s con
  pattern_known s (ConOfPat con q) = constructor_known s con && pattern_known s q
  pattern_known s (RecordPat fields qs) = list_all (holds s.fields) fields && patterns_known s qs
  pattern_known s (OrPat left right) = pattern_known s left && pattern_known s right
  pattern_known s (AliasPat q x) = pattern_known s q
  pattern_known s (AnnotPat q w) = pattern_known s q && type_known s w

  pub patterns_known : Scope → Patterns → Bool
  patterns_known s NoPatterns = true
  patterns_known s (AndPattern q qs) = pattern_known s q && patterns_known s qs

-- new names, none of them twice
abbrev pub are_new : Scope → List ℕ → Bool
are_new s xs = differ xs && list_all (is_new s) xs

abbrev pub pattern_scoped : Scope → Pattern → Bool
pattern_scoped s q = pattern_known s q && sides_agree q && are_new s (names_in q)

-- the pattern of an effect's argument, and the names that it binds
abbrev pub argument_known : Scope → Option Pattern → Bool
argument_known s None = true
argument_known s (Some q) = pattern_known s q && sides_agree q

abbrev pub argument_names : Option Pattern → List ℕ
argument_names None = []
argument_names (Some q) = names_in q

-- a type where the text may give one
abbrev pub annotation_known : Scope → Option Written → Bool
annotation_known s None = true
annotation_known s (Some w) = type_known s w

-- the names of a group of functions
abbrev pub function_names : Functions → List ℕ
function_names NoFunctions = []
function_names (AndFunction f type x body fs) = f ∷ function_names fs

-- each name, constructor, field and type of a term is used within its scope, and each name that it binds is new
abbrev mutual
  pub term_scoped : Scope → Term → Bool
  term_scoped s (Var x) = holds s.names x
  term_scoped s (Const c) = true
  term_scoped s (Fun x body) = is_new s x && term_scoped (with_names (x ∷ []) s) body
  term_scoped s (App f a) = term_scoped s f && term_scoped s a
  term_scoped s (Let x a body) = is_new s x && term_scoped s a && term_scoped (with_names (x ∷ []) s) body
  term_scoped s (LetRec fs body) =
      are_new s (function_names fs) && functions_scoped (with_names (function_names fs) s) fs
      && term_scoped (with_names (function_names fs) s) body
  term_scoped s (Seq a b) = term_scoped s a && term_scoped s b
  term_scoped s (If c a b) = term_scoped s c && term_scoped s a && term_scoped s b
  term_scoped s (Match at a cs) = term_scoped s a && clauses_scoped s cs
  term_scoped s (Tuple parts) = terms_scoped s parts
  term_scoped s (Con con) = constructor_known s con
  term_scoped s (ConOf con a) = constructor_known s con && term_scoped s a
  term_scoped s (Record fields parts) = list_all (holds s.fields) fields && terms_scoped s parts
  term_scoped s (Array parts) = terms_scoped s parts
  term_scoped s (Field field a) = holds s.fields field && term_scoped s a
  term_scoped s (SetField field a b) = holds s.fields field && term_scoped s a && term_scoped s b
  term_scoped s (Prim op parts) = terms_scoped s parts
  term_scoped s (Catch at a values exceptions) =
      term_scoped s a && clauses_scoped s values && clauses_scoped s exceptions
  term_scoped s (Handle kind types parts cs) =
      annotation_known s types.effect && terms_scoped s parts && effect_clauses_scoped s cs
  term_scoped s (Annot a w) = term_scoped s a && type_known s w

  pub terms_scoped : Scope → Terms → Bool
  terms_scoped s NoTerms = true
  terms_scoped s (AndTerm a parts) = term_scoped s a && terms_scoped s parts

  -- the functions of a group whose names are in scope
  pub functions_scoped : Scope → Functions → Bool
  functions_scoped s NoFunctions = true
  functions_scoped s (AndFunction f type x body fs) =
      annotation_known s type && is_new s x && term_scoped (with_names (x ∷ []) s) body && functions_scoped s fs

  pub clauses_scoped : Scope → Clauses → Bool
  clauses_scoped s NoClauses = true
  clauses_scoped s (AndClause q guard body cs) =
      pattern_scoped s q && guard_scoped (with_names (names_in q) s) guard
      && term_scoped (with_names (names_in q) s) body && clauses_scoped s cs

  pub guard_scoped : Scope → Guard → Bool
  guard_scoped s NoGuard = true
  guard_scoped s (When a) = term_scoped s a

  -- the pattern and the continuation's name are bound together
  pub effect_clauses_scoped : Scope → EffectClauses → Bool
  effect_clauses_scoped s NoEffects = true
  effect_clauses_scoped s (AndEffect e argument k type body cs) =
      constructor_known s e && argument_known s argument && annotation_known s type && are_new s (argument_names argument ++ k ∷ [])
      && term_scoped (with_names (argument_names argument ++ k ∷ []) s) body && effect_clauses_scoped s cs

-- a value item, and the names that it defines
abbrev pub value_scoped : Scope → Item → Bool
value_scoped s (Define x a) = is_new s x && term_scoped s a
value_scoped s (Destructure at q a) = pattern_scoped s q && term_scoped s a
value_scoped s (DefineRec fs) = are_new s (function_names fs) && functions_scoped (with_names (function_names fs) s) fs
value_scoped s (Evaluate a) = term_scoped s a

abbrev pub names_defined : Item → List ℕ
names_defined (Define x a) = x ∷ []
names_defined (Destructure at q a) = names_in q
names_defined (DefineRec fs) = function_names fs
names_defined (Evaluate a) = []

-- the texts of the parameters of a type
abbrev pub parameters_of : Parts → ℕ → List (List ℕ)
parameters_of p t = elim (slice_get p.type_rows t) [ Some r ↦ r.parameters | None ↦ [] ]

-- the name of a type, if it has a row
abbrev pub type_name : Parts → ℕ → List ℕ
type_name p t = elim (slice_get p.type_rows t) [ Some r ↦ r.name | None ↦ [] ]

abbrev pub variant_rows_of : Parts → ℕ → List VariantRow
variant_rows_of p t = filter (λ r. r.of_type == t) p.variant_rows

abbrev pub field_rows_of : Parts → ℕ → List FieldRow
field_rows_of p t = filter (λ r. r.of_type == t) p.field_rows

-- the type of an argument, if there is one
abbrev pub argument_declared : List Written → Scope → ℕ → Option ℕ → Bool
argument_declared ws s n None = true
argument_declared ws s n (Some w) = type_declared s n (type_at ws w)

-- the numbers go up from this one
abbrev pub go_up : ℕ → List ℕ → Bool
go_up i [] = true
go_up i (x ∷ xs) = (x == i) && go_up (suc i) xs

-- the constructors of a type have different names, and their types are declared
abbrev pub variants_scoped : Parts → Scope → ℕ → Bool
variants_scoped p s t =
    texts_differ (map (λ r. r.name) (variant_rows_of p t))
    && list_all (λ r. argument_declared (types_of p) s (length (parameters_of p t)) r.argument) (variant_rows_of p t)

-- the fields of a type have different names and stand in order, and their types are declared
abbrev pub fields_scoped : Parts → Scope → ℕ → Bool
fields_scoped p s t =
    texts_differ (map (λ r. r.name) (field_rows_of p t))
    && go_up 0 (map (λ r. r.index) (field_rows_of p t))
    && list_all (λ r. type_declared s (length (parameters_of p t)) (type_at (types_of p) r.annotation)) (field_rows_of p t)

-- the parameters of a type have different names, and so have its constructors and its fields
abbrev pub type_scoped : Parts → Scope → ℕ → Bool
type_scoped p s t = texts_differ (parameters_of p t) && variants_scoped p s t && fields_scoped p s t

-- types come into scope with their constructors and fields
abbrev pub with_types : Parts → List ℕ → Scope → Scope
with_types p ts s = record s {
  types = ts ++ s.types;
  variants = flat_map (variants_of p) ts ++ s.variants;
  fields = flat_map (fields_of p) ts ++ s.fields;
}

abbrev pub with_exceptions : List ℕ → Scope → Scope
with_exceptions es s = record s { exceptions = es ++ s.exceptions }

abbrev pub with_effects : List ℕ → Scope → Scope
with_effects es s = record s { effects = es ++ s.effects }

-- rows that no item before has declared, none of them twice
abbrev pub rows_new : List ℕ → List ℕ → Bool
rows_new declared rows = differ rows && list_all (λ r. not (holds declared r)) rows

-- the types of one item have different names, and each of them is in scope in the whole item
abbrev pub types_scoped : Parts → Scope → List ℕ → Bool
types_scoped p s ts =
    rows_new s.types ts && texts_differ (map (type_name p) ts) && list_all (type_scoped p (with_types p ts s)) ts

-- the types of an exception are declared
abbrev pub exception_row_scoped : List Written → Scope → Option ExceptionRow → Bool
exception_row_scoped ws s None = false
exception_row_scoped ws s (Some r) = argument_declared ws s 0 r.argument

abbrev pub exception_scoped : Parts → Scope → ℕ → Bool
exception_scoped p s e = exception_row_scoped (types_of p) s (slice_get p.exception_rows e)

-- the types of an effect are declared
abbrev pub effect_row_scoped : List Written → Scope → Option EffectRow → Bool
effect_row_scoped ws s None = false
effect_row_scoped ws s (Some r) = type_known s (type_at ws r.result) && argument_declared ws s 0 r.argument

abbrev pub effect_scoped : Parts → Scope → ℕ → Bool
effect_scoped p s e = effect_row_scoped (types_of p) s (slice_get p.effect_rows e)

-- a value item, where an item is one
abbrev pub if_value : Bool → (Item → Bool) → Option Item → Bool
if_value other test None = other
if_value other test (Some i) = test i

abbrev pub value_of : Parts → ItemOf → Option Item
value_of p i = item_tree (types_of p) (patterns_of p) (terms_of p) (place_of i.place) i.form

-- an item uses what is in scope, and what it declares is new
abbrev pub form_scoped : Parts → Scope → ItemForm → Bool
form_scoped p s (item.Types ts) = types_scoped p s ts
form_scoped p s (item.Exception e) = rows_new s.exceptions (e ∷ []) && exception_scoped p s e
form_scoped p s (item.Effects extended es) =
    holds s.types extended && rows_new s.effects es && list_all (effect_scoped p s) es
form_scoped p s _ = true

abbrev pub item_scoped : Parts → Scope → ItemOf → Bool
item_scoped p s i = if_value (form_scoped p s i.form) (value_scoped s) (value_of p i)

-- the scope behind an item
abbrev pub form_declares : Parts → ItemForm → Scope → Scope
form_declares p (item.Types ts) s = with_types p ts s
form_declares p (item.Exception e) s = with_exceptions (e ∷ []) s
form_declares p (item.Effects extended es) s = with_effects es s
form_declares p _ s = s

abbrev pub names_of_item : Option Item → List ℕ
names_of_item None = []
names_of_item (Some i) = names_defined i

abbrev pub behind : Parts → ItemOf → Scope → Scope
behind p i s = with_names (names_of_item (value_of p i)) (form_declares p i.form s)

-- each item is scoped behind those before it
abbrev pub items_scoped : Parts → Scope → List ItemOf → Bool
items_scoped p s [] = true
items_scoped p s (i ∷ is) = item_scoped p s i && items_scoped p (behind p i s) is

-- the numbers below this one
abbrev pub below : ℕ → List ℕ
below zero = []
below (suc n) = n ∷ below n

-- the scope before the first item: the built-in types, constructors and exceptions
abbrev pub first_scope : Scope
first_scope = record {
  types = below (length builtin_types);
  variants = below (length builtin_variants);
  fields = [];
  exceptions = below (length builtin_exceptions);
  effects = [];
  names = [];
}

-- the rules on names: each name, type, constructor and field is used within its scope, none is bound twice in one pattern,
-- group, list of parameters, item, variant or record, and both sides of an or-pattern bind the same names
abbrev pub names_scoped : Parts → Bool
names_scoped p = items_scoped p first_scope p.items

-- the type of an effect is a type name applied to one type
abbrev pub is_application : Written → Bool
is_application (Applied t (AndType w NoTypes)) = true
is_application _ = false

abbrev pub argument_closed : List Written → Option ℕ → Bool
argument_closed ws None = true
argument_closed ws (Some w) = is_closed 0 (type_at ws w)

-- the type of an effect is a type name applied to one type, and its types have no blank and no type variable
abbrev pub effect_typed : List Written → EffectRow → Bool
effect_typed ws r = is_application (type_at ws r.result) && is_closed 0 (type_at ws r.result) && argument_closed ws r.argument

abbrev pub effects_typed : Parts → Bool
effects_typed p = list_all (effect_typed (types_of p)) p.effect_rows

-- the rules that a program keeps beyond those of an arena
pub record IsCore (p : Parts) : Type 0 where
  pub names : IsTrue (names_scoped p)
  pub effects : IsTrue (effects_typed p)
