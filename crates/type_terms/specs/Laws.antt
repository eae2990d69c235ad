-- The laws of all solutions.
use Rattle.std.specs.Prelude.{◌≡◌, ℕ, [], map, ◌↔◌}
use Rattle.effect_meaning.specs.Terms.{Program}
use Rattle.type_terms.specs.TypeTrees.{Ty, instance_of}
use Rattle.type_terms.specs.Items.{definition_types}
use Rattle.type_terms.specs.Comparisons.{compared_items}
use Rattle.type_terms.specs.Accepted.{Solution, ComparesAtBase, Fits, FitsSize}

-- a solution is an instance of another one: types stand for the other's type variables, as its definitions and comparisons show
abbrev pub IsInstance : (p : Program) → (h k : Solution p) → (ℕ → Ty) → Type 0
IsInstance p h k f =
    (definition_types p [] p.items k ≡ map (instance_of f) (definition_types p [] p.items h))
    × (compared_items p [] p.items k ≡ map (map (instance_of f)) (compared_items p [] p.items h))

-- whatever types stand for the type variables of a solution, such an instance of it is a solution
abbrev pub InstancesSolve : Type 0
InstancesSolve = (p : Program) (h : Solution p) (f : ℕ → Ty) → (k : Solution p) × IsInstance p h k f

-- each solution is an instance of the most general one
abbrev pub IsMostGeneral : (p : Program) → Solution p → Type 0
IsMostGeneral p h = (k : Solution p) → (f : ℕ → Ty) × IsInstance p h k f

-- every solution compares at the five types exactly where the most general one does
abbrev pub DecidesComparisons : Type 0
DecidesComparisons = (p : Program) (h : Solution p) → IsMostGeneral p h → ((k : Solution p) → ComparesAtBase p k) ↔ ComparesAtBase p h

-- then all of them compare at the same types
abbrev pub ComparesAlike : Type 0
ComparesAlike =
    (p : Program) (h : Solution p) → IsMostGeneral p h → ComparesAtBase p h → (k : Solution p)
    → compared_items p [] p.items k ≡ compared_items p [] p.items h

-- some solution fits exactly where the most general one does
abbrev pub DecidesSize : Type 0
DecidesSize = (p : Program) (h : Solution p) → IsMostGeneral p h → FitsSize p ↔ Fits p h
