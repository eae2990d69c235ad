-- The equations of items, and which names are generalised.
use Rattle.std.specs.Prelude.{ℕ, zero, suc, ◌+◌, min, Bool, true, false, ◌==◌, List, [], ◌∷◌, map, slice_get, Option, Some, None, Result, Ok, Err}
use Rattle.fx_base.specs.declared.refusal.Place.{Place}
use Rattle.effect_meaning.specs.declared.core_nodes.Function.{Function}
use Rattle.effect_meaning.specs.declared.core_nodes.TermForm.{TermForm}
use Rattle.effect_meaning.specs.declared.core_nodes.TermForm.TheVariants as form
use Rattle.effect_meaning.specs.declared.core_tables.Item.{Item}
use Rattle.effect_meaning.specs.declared.core_tables.ItemForm.{ItemForm}
use Rattle.effect_meaning.specs.declared.core_tables.ItemForm.TheVariants as item
use Rattle.effect_meaning.specs.Arena.{Parts}
use Rattle.type_graph.specs.Outer.{item_ended, made_outer}
use Rattle.ml_infer.specs.declared.inference.Inference.{Inference}
use Rattle.ml_infer.specs.declared.inference.End.{End}
use Rattle.ml_infer.specs.declared.inference.NameType.TheVariants as name
use Rattle.ml_infer.specs.declared.tasks.Task.TheVariants as task
use Rattle.ml_infer.specs.Inference.{Gives, name_noted, of_one_type, one_type, taken}
use Rattle.ml_infer.specs.Tasks.{first, first_one}
use Rattle.ml_infer.specs.Written.{refused_unless}
use Rattle.ml_infer.specs.Declarations.{exception_declared}
use Rattle.ml_infer.specs.Patterns.{whole_pattern}
use Rattle.ml_infer.specs.Terms.{functions_first}
use Rattle.ml_infer.specs.Walk.{finished}

-- all tasks are done
abbrev pub done : Parts → Inference → Inference
done p s = finished 18446744073709551615 p s

-- declared types are checked
abbrev pub types_declared : Parts → List ℕ → Inference → Inference
types_declared p ts s = done p (first (map (λ t. task.TypeDeclared t) ts) s)

-- declared effects are checked
abbrev pub effects_declared : Parts → List ℕ → Inference → Inference
effects_declared p ns s = done p (first (map (λ n. task.EffectDeclared n) ns) s)

-- a term is a function literal or not, or that is told by the term behind its type
abbrev pub literal : TermForm → Result Bool ℕ
literal (form.Function x body) = Ok true
literal (form.Annotated a w) = Err a
literal _ = Ok false

abbrev pub literal_at : Parts → ℕ → Result Bool ℕ
literal_at p n = elim (slice_get p.terms n) [ None ↦ Ok false | Some node ↦ literal node.form ]

abbrev pub told : Result Bool ℕ → (ℕ → Bool) → Bool
told (Ok is) onward = is
told (Err a) onward = onward a

-- a term is a function literal, with its type or without
unfoldable pub is_function_at : (steps : ℕ) → Parts → ℕ → Bool
is_function_at zero p n = false
is_function_at (suc steps) p n = told (literal_at p n) (is_function_at steps p)

-- the type of a term, whose equations are taken
abbrev pub term_found : Parts → ℕ → Inference → Gives
term_found p n s = taken (done p (first_one (task.Term n) s))

-- what the item at hand gave to outer variables is outer from here on
abbrev pub given_outer : Inference → Inference
given_outer s = record s { types = item_ended s.types }

-- the type of a definition is noted
abbrev pub definition_noted : ℕ → Inference → Inference
definition_noted t s = record s { definitions = t ∷ s.definitions }

-- types and their parts are outer from here on
abbrev pub outer_from_here : List ℕ → Inference → Inference
outer_from_here ts s = record s { types = made_outer 18446744073709551615 ts s.types }

-- a name whose value has this type is generalised, or not
abbrev pub defined_as : Bool → (x t : ℕ) → Inference → Inference
defined_as true x t s = name_noted x (name.Generalised t) s
defined_as false x t s = of_one_type x t (outer_from_here (t ∷ []) s)

-- a name that is bound to a function literal is generalised
abbrev pub defined : Parts → (x n : ℕ) → Inference → Inference
defined p x n s =
    let t = term_found p n s in
    defined_as (is_function_at 4294967295 p n) x t.found (definition_noted t.found (given_outer t.state))

-- what a pattern binds isn't generalised
abbrev pub bound_outer : ℕ → Inference → Inference
bound_outer t s = outer_from_here (t ∷ s.bound) (record s { bound = [] })

abbrev pub destructured : Parts → (q n : ℕ) → Inference → Inference
destructured p q n s =
    let t = term_found p n s in bound_outer t.found (definition_noted t.found (done p (whole_pattern q t.found t.state)))

-- a function of a group is generalised
abbrev pub generalised : ℕ → Inference → Inference
generalised x s = let t = one_type x s in name_noted x (name.Generalised t.found) (definition_noted t.found t.state)

abbrev pub generalised_each : List Function → Inference → Inference
generalised_each [] s = s
generalised_each (f ∷ fs) s = generalised_each fs (generalised f.name s)

-- a group of functions, which are generalised behind it
abbrev pub defined_rec : Parts → List Function → Inference → Inference
defined_rec p fs s = generalised_each fs (given_outer (done p (functions_first fs s)))

-- an item
unfoldable pub item_of : ItemForm → Parts → Place → Inference → Inference
item_of (item.Types ts) p at s = types_declared p ts s
item_of (item.Exception n) p at s = exception_declared p n s
item_of (item.Effects extended ns) p at s = effects_declared p ns (refused_unless (extended == 10) at s)
item_of (item.Define x n) p at s = defined p x n s
item_of (item.Destructure q n) p at s = destructured p q n s
item_of (item.DefineRec fs) p at s = defined_rec p fs s
item_of (item.Evaluate n) p at s = (term_found p n s).state

-- an item, as long as the walk goes on
abbrev pub item_counted : Inference → Inference
item_counted s = record s { item = min (s.item + 1) 18446744073709551615 }

abbrev pub item_while : Option End → Parts → Item → Inference → Inference
item_while (Some e) p x s = s
item_while None p x s = item_counted (given_outer (item_of x.form p x.place s))

abbrev pub item_taken : Parts → Item → Inference → Inference
item_taken p x s = item_while s.end p x s

-- items one after another
abbrev pub items_taken : Parts → List Item → Inference → Inference
items_taken p [] s = s
items_taken p (x ∷ xs) s = items_taken p xs (item_taken p x s)
