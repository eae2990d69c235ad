-- The comparisons of a program in the order of its text: item by item, and in an item by the place of the operator or of the name
-- compare. Those that a loop stands for are at the loop's place.
use Rattle.std.specs.Prelude.{ℕ, Bool, ◌&&◌, ◌||◌, ◌==◌, nat_lt, nat_le, List, [], ◌∷◌, ◌++◌, map, flat_map, filter_map, slice_index_or, Option, Some, None, if◌then◌else◌}
use Rattle.effect_meaning.specs.Terms.{Place}
use Rattle.effect_meaning.specs.declared.core_nodes.Clause.{Clause}
use Rattle.effect_meaning.specs.declared.core_nodes.Operation.TheVariants as operation
use Rattle.effect_meaning.specs.declared.core_nodes.TermForm.{TermForm}
use Rattle.effect_meaning.specs.declared.core_nodes.TermForm.TheVariants as term
use Rattle.effect_meaning.specs.declared.core_tables.ItemForm.{ItemForm}
use Rattle.effect_meaning.specs.declared.core_tables.ItemForm.TheVariants as item
use Rattle.effect_meaning.specs.Arena.{Parts}
use Rattle.effect_meaning.specs.ArenaTrees.{trees, place_of, program}
use Rattle.type_terms.specs.TypeTrees.{Ty}
use Rattle.type_terms.specs.Items.{ItemsHave}
use Rattle.type_terms.specs.Comparisons.{compared_items}

-- the terms of a clause, by their numbers
abbrev pub clause_terms : Clause → List ℕ
clause_terms c = elim c.guard [ None ↦ c.body ∷ [] | Some g ↦ g ∷ c.body ∷ [] ]

-- the terms inside a term from the left, by their numbers
abbrev pub inner_terms : TermForm → List ℕ
inner_terms (term.Name x) = []
inner_terms (term.Constant k) = []
inner_terms (term.Function x body) = body ∷ []
inner_terms (term.Apply f a) = f ∷ a ∷ []
inner_terms (term.Let x a body) = a ∷ body ∷ []
inner_terms (term.LetRec fs body) = map (λ f. f.body) fs ++ body ∷ []
inner_terms (term.Sequence a b) = a ∷ b ∷ []
inner_terms (term.If test a b) = test ∷ a ∷ b ∷ []
inner_terms (term.Match a cs) = a ∷ flat_map clause_terms cs
inner_terms (term.Tuple parts) = parts
inner_terms (term.Constructor con) = []
inner_terms (term.Construct con a) = a ∷ []
inner_terms (term.Record parts) = map (λ f. f.part) parts
inner_terms (term.Array parts) = parts
inner_terms (term.Field field a) = a ∷ []
inner_terms (term.SetField field a b) = a ∷ b ∷ []
inner_terms (term.Primitive op parts) = parts
inner_terms (term.Catch a values exceptions) = a ∷ flat_map clause_terms values ++ flat_map clause_terms exceptions
inner_terms (term.Handle kind types f a value exception cs) = f ∷ a ∷ value ∷ exception ∷ map (λ e. e.body) cs
inner_terms (term.Annotated a w) = a ∷ []

-- the place of a comparison
abbrev pub own_place : Place → TermForm → List Place
own_place at (term.Primitive (operation.Compare o) parts) = at ∷ []
own_place at _ = []

-- the places of the comparisons in the terms of these numbers
abbrev pub places_in : List (List Place) → List ℕ → List Place
places_in places numbers = flat_map (λ i. slice_index_or places i []) numbers

-- the places of the comparisons in each term, from those in the terms before it
abbrev pub comparison_places : Parts → List (List Place)
comparison_places p = trees (λ places n. own_place (place_of n.place) n.form ++ places_in places (inner_terms n.form)) [] p.terms

-- the terms of a value item, by their numbers
abbrev pub item_terms : ItemForm → Option (List ℕ)
item_terms (item.Define x a) = Some (a ∷ [])
item_terms (item.Destructure q a) = Some (a ∷ [])
item_terms (item.DefineRec fs) = Some (map (λ f. f.body) fs)
item_terms (item.Evaluate a) = Some (a ∷ [])
item_terms _ = None

-- the places of the comparisons of each value item
abbrev pub item_places : Parts → List (List Place)
item_places p = map (places_in (comparison_places p)) (filter_map (λ i. item_terms i.form) p.items)

-- the one place is not behind the other
abbrev pub not_behind : Place → Place → Bool
not_behind a b = nat_lt a.line b.line || ((a.line == b.line) && nat_le a.column b.column)

-- types with their places, by these; those of one place stay in their order
abbrev pub insert : Place → Ty → List (Place × Ty) → List (Place × Ty)
insert at t [] = (at, t) ∷ []
insert at t (n ∷ ns) = if not_behind at n.0 then (at, t) ∷ n ∷ ns else n ∷ insert at t ns

-- all of them by their places
abbrev pub by_place : List Place → List Ty → List (Place × Ty)
by_place (at ∷ places) (t ∷ ts) = insert at t (by_place places ts)
by_place _ _ = []

-- the types of the comparisons of one item after another, by their places
abbrev pub each_by_place : List (List Place) → List (List Ty) → List Ty
each_by_place (places ∷ others) (ts ∷ tss) = map (λ n. n.1) (by_place places ts) ++ each_by_place others tss
each_by_place _ _ = []

-- the types of the comparisons of a program in the order of its text, in a solution
abbrev pub compared_in_text : (p : Parts) → ItemsHave (program p) [] (program p).items → List Ty
compared_in_text p h = each_by_place (item_places p) (compared_items (program p) [] (program p).items h)
