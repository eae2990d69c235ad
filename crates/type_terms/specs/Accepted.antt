-- Which programs have types, and whose types are small enough.
use Rattle.std.specs.Prelude.{◌≡◌, ℕ, ◌≤◌, List, [], map}
use Rattle.effect_meaning.specs.Terms.{Program}
use Rattle.effect_meaning.specs.Arena.{Parts}
use Rattle.effect_meaning.specs.ArenaTrees.{program}
use Rattle.type_terms.specs.declared.base_type.BaseTy.{BaseTy}
use Rattle.type_terms.specs.TypeTrees.{IsBase, base_ty, size}
use Rattle.type_terms.specs.WrittenTypes.{Every, Declared}
use Rattle.type_terms.specs.Items.{ItemsHave, definition_types}
use Rattle.type_terms.specs.Comparisons.{compared_items}
use Rattle.type_terms.specs.TextOrder.{compared_in_text}

-- a solution of the equations of a program
abbrev pub Solution : Program → Type 0
Solution p = ItemsHave p [] p.items

-- in this solution every comparison is at int, bool, char, unit or string
abbrev pub ComparesAtBase : (p : Program) → Solution p → Type 0
ComparesAtBase p h = Every (Every IsBase) (compared_items p [] p.items h)

-- the program has types: its declarations are types, its equations have a solution, and in each solution every comparison is at
-- one of the five types. Where there is a most general solution, it alone decides that (Laws)
pub record Types (p : Program) : Type 0 where
  pub declarations : Declared p
  pub solution : Solution p
  pub comparisons : (h : Solution p) → ComparesAtBase p h

-- the greatest number of nodes of a definition's type
abbrev pub type_bound : ℕ
type_bound = 4096

-- in this solution the type of each top-level definition has at most so many nodes
abbrev pub Fits : (p : Program) → Solution p → Type 0
Fits p h = Every (λ t. size t ≤ type_bound) (definition_types p [] p.items h)

-- some solution fits. Where there is a most general one, it alone decides that too
abbrev pub FitsSize : Program → Type 0
FitsSize p = (h : Solution p) × Fits p h

-- these are the types of the comparisons of a program in the order of its text, in some solution
abbrev pub AreCompared : Parts → List BaseTy → Type 0
AreCompared p bs = (h : Solution (program p)) × (compared_in_text p h ≡ map base_ty bs)
