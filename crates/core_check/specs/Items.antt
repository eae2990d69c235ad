-- The values of items: what they leave to be done, and the test of the types that they name.
use Rattle.std.specs.Prelude.{◌≡◌, ℕ, ◌+◌, Bool, true, List, ◌∷◌, ◌++◌, length}
use Rattle.effect_meaning.specs.Terms.{Place}
use Rattle.effect_meaning.specs.Arena.{Parts}
use Rattle.effect_meaning.specs.ArenaTrees.{types_of, patterns_of, terms_of, item_tree}
use Rattle.effect_meaning.specs.Scoped.{Scope, value_scoped, if_value, names_of_item}
use Rattle.effect_meaning.specs.declared.core_tables.ItemForm.{ItemForm}
use Rattle.effect_meaning.specs.declared.core_tables.ItemForm.TheVariants as item
use Rattle.core_check.specs.declared.task.Task.{Task}
use Rattle.core_check.specs.declared.task.Task.TheVariants as task
use Rattle.core_check.specs.declared.known.Known.{Known}
use Rattle.core_check.specs.Walk.{name_tasks, body_tasks, functions_test, at}

abbrev pub item_tasks : ℕ → ItemForm → List Task → List Task
item_tasks n (item.Define x a) ts = task.Term a ∷ task.Bind x ∷ ts
item_tasks n (item.Destructure q a) ts = task.Term a ∷ task.Pattern q ∷ ts
item_tasks n (item.DefineRec fs) ts = name_tasks (body_tasks (n + length fs) ts fs) fs
item_tasks n (item.Evaluate a) ts = task.Term a ∷ ts
item_tasks n _ ts = ts

abbrev pub item_test : Known → List ℕ → ItemForm → Bool
item_test k rs (item.DefineRec fs) = functions_test k rs fs
item_test k rs _ = true

-- the rules on names hold in the value of an item, if it has one, and its names are in scope behind it
abbrev pub ValueLeads : Parts → Scope → List ℕ → ItemForm → List ℕ → Type 0
ValueLeads p s names f later =
    (place : Place)
    → (if_value true (value_scoped (at s names)) (item_tree (types_of p) (patterns_of p) (terms_of p) place f) ≡ true)
    × (later ≡ names_of_item (item_tree (types_of p) (patterns_of p) (terms_of p) place f) ++ names)
