-- The items of a program, one after another. OCaml manual, "Module items".
use Rattle.std.specs.Prelude.{ℕ, Bool, List, [], ◌∷◌, ◌++◌, flat_map, Option, Some, None, if◌then◌else◌}
use Rattle.fx_base.specs.declared.refusal.Place.{Place}
use Rattle.ml_syntax.specs.declared.node.Binding.{Binding}
use Rattle.ml_syntax.specs.declared.prog.EffectDefinition.{EffectDefinition}
use Rattle.ml_syntax.specs.declared.prog.Item.{Item as ItemOf}
use Rattle.ml_syntax.specs.declared.prog.Item.TheVariants as item
use Rattle.effect_meaning.specs.Terms.{Place as PlaceInCore, Pattern, NamePat, Term, Item, Define, Destructure, DefineRec, Evaluate, Program}
use Rattle.effect_meaning.specs.ArenaTrees.{place_of}
use Rattle.surface_meaning.specs.Scope.{TypeName, Row, Module, Scope}
use Rattle.surface_meaning.specs.Visible.{type_named, module_named, opened}
use Rattle.surface_meaning.specs.Meanings.{Declared, Meaning, term_at}
use Rattle.surface_meaning.specs.Types.{missing}
use Rattle.surface_meaning.specs.Patterns.{with_binders}
use Rattle.surface_meaning.specs.Functions.{right_side, pattern_of_binding, binders_of_group, functions}
use Rattle.surface_meaning.specs.Breaches.{breaches_at, let_breaches}
use Rattle.surface_meaning.specs.Declarations.{Declarations, with_type_item, with_exception_item, with_effect_item, argument_breaches, type_item_breaches, effect_definition_breaches}

-- an item that defines a name, or the names of a pattern
abbrev pub define : PlaceInCore → Pattern → Term → Item
define at (NamePat x) a = Define x a
define at p a = Destructure at p a

-- let p = a and q = b as items: one after the other; each right side sees only what was visible before
abbrev pub definitions : List Meaning → PlaceInCore → Scope → List Binding → List Item
definitions ms at s [] = []
definitions ms at s (b ∷ bs) = define at (pattern_of_binding ms s b) (right_side ms at s b) ∷ definitions ms at s bs

-- the value items that bindings make, where these are visible in the second scope
abbrev pub let_items : List Meaning → PlaceInCore → Bool → List Binding → Scope → Scope → List Item
let_items ms at is_rec bs s r = if is_rec then DefineRec (functions ms at r bs) ∷ [] else definitions ms at s bs

-- further value items
abbrev pub and_items : List Item → Program → Program
and_items is p = record p { items = p.items ++ is }

-- the names of a module, if there is one
abbrev pub opened_if : Option Module → Scope → Scope
opened_if None s = s
opened_if (Some m) s = opened m s

-- the row of a type
abbrev pub row_of : Option TypeName → Option ℕ
row_of (Some (Row t)) = Some t
row_of _ = None

-- effect constructors, if the type that they extend has a row
abbrev pub with_effects_if : List Meaning → Option ℕ → List EffectDefinition → Declarations → Declarations
with_effects_if ms None es d = d
with_effects_if ms (Some t) es d = with_effect_item ms t es d

-- what is declared behind an item
abbrev pub with_item : List Meaning → ItemOf → Declarations → Declarations
with_item ms (item.Expression place a) d =
    record { scope = d.scope; program = and_items (Evaluate (term_at ms a d.scope) ∷ []) d.program }
with_item ms (item.Let place is_rec bs) d =
    let r = with_binders (binders_of_group ms bs) d.scope
    in record { scope = r; program = and_items (let_items ms (place_of place) is_rec bs d.scope r) d.program }
with_item ms (item.Types place ts) d = with_type_item ms ts d
with_item ms (item.Effects place n es) d = with_effects_if ms (row_of (type_named d.scope n)) es d
with_item ms (item.Exception place c) d = with_exception_item ms c d
with_item ms (item.Open place n) d = record { scope = opened_if (module_named d.scope n) d.scope; program = d.program }

-- the breaches in an item
abbrev pub item_breaches : List Meaning → ItemOf → Declarations → List Place
item_breaches ms (item.Expression place a) d = breaches_at ms (a ∷ []) d.scope
item_breaches ms (item.Let place is_rec bs) d = let_breaches ms is_rec bs d.scope
item_breaches ms (item.Types place ts) d = type_item_breaches ms ts d
item_breaches ms (item.Effects place n es) d =
    missing (row_of (type_named d.scope n)) n.place ++ flat_map (effect_definition_breaches ms d.scope) es
item_breaches ms (item.Exception place c) d = argument_breaches ms (Declared []) d.scope c.argument
item_breaches ms (item.Open place n) d = missing (module_named d.scope n) n.place

-- all items, each behind those before it
abbrev pub with_items : List Meaning → List ItemOf → Declarations → Declarations
with_items ms [] d = d
with_items ms (i ∷ is) d = with_items ms is (with_item ms i d)

-- the breaches in all items, each behind those before it
abbrev pub items_breaches : List Meaning → List ItemOf → Declarations → List Place
items_breaches ms [] d = []
items_breaches ms (i ∷ is) d = item_breaches ms i d ++ items_breaches ms is (with_item ms i d)
