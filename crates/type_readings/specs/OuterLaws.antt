-- The laws of what stays of outer types, and of how many types and arguments there are.
use Rattle.std.specs.Prelude.{◌≡◌, ℕ, ◌≤◌, ◌<◌, Bool, true, false, List, [], ◌∷◌, length}
use Rattle.std.specs.List.{AllByRecursion}
use Rattle.type_graph.specs.Copied.{copied, copy_is}
use Rattle.type_graph.specs.Graph.{Graph, form_of, is_variable, variable_added, applied}
use Rattle.type_graph.specs.Outer.{made_outer, item_ended}
use Rattle.type_graph.specs.Unified.{unified, unified_is}
use Rattle.type_readings.specs.WellFormed.{AreNumbers, IsWellFormed, IsOuter, IsOuterOr}
use Rattle.type_readings.specs.SignatureRules.{IsMade}

-- an outer type that is no variable
abbrev pub IsFixed : Graph → ℕ → Type 0
IsFixed g n = IsOuter g n × (is_variable (form_of g.nodes n) ≡ false)

-- each of the one graph is one of the other
abbrev pub FixedStays : (g h : Graph) → Type 0
FixedStays g h = (n : ℕ) → n < length g.nodes → IsFixed g n → IsFixed h n

-- what is outer in the one graph, or given to earlier items, is so in the other
abbrev pub OuterStays : (g h : Graph) → Type 0
OuterStays g h = (n : ℕ) → n < length g.nodes → IsOuterOr g g.given n → IsOuterOr h h.given n

-- as many types, and the same arguments
abbrev pub AsMany : (g h : Graph) → Type 0
AsMany g h = (length h.nodes ≡ length g.nodes) × (h.arguments ≡ g.arguments)

-- an outer type that is no variable stays so where a variable is added
abbrev pub VariableKeepsFixed : Type 0
VariableKeepsFixed = (g : Graph) → IsWellFormed g → FixedStays g (variable_added g)

-- and where a type constructor is
abbrev pub ApplicationKeepsFixed : Type 0
ApplicationKeepsFixed = (c : ℕ) (ns : List ℕ) (outer : Bool) (g : Graph) → IsWellFormed g → FixedStays g (applied c ns outer g)

-- which is one itself, if it is outer
abbrev pub ApplicationIsFixed : Type 0
ApplicationIsFixed = (c : ℕ) (ns : List ℕ) (g : Graph) → IsWellFormed g → IsFixed (applied c ns true g) (length g.nodes)

-- and in a graph with further types
abbrev pub MadeKeepsFixed : Type 0
MadeKeepsFixed = (g h : Graph) → IsMade g h → IsWellFormed g → FixedStays g h

-- and where types become outer
abbrev pub OuterKeepsFixed : Type 0
OuterKeepsFixed = (steps : ℕ) (ns : List ℕ) (g : Graph) → FixedStays g (made_outer steps ns g)

-- and at the end of an item
abbrev pub EndKeepsFixed : Type 0
EndKeepsFixed = (g : Graph) → FixedStays g (item_ended g)

-- and behind a copy
abbrev pub CopyKeepsFixed : Type 0
CopyKeepsFixed = (n c : ℕ) (g h : Graph) → IsWellFormed g → copied n g ≡ copy_is c h → FixedStays g h

-- what is outer or given stays so where a variable is added
abbrev pub VariableKeepsOuter : Type 0
VariableKeepsOuter = (g : Graph) → IsWellFormed g → OuterStays g (variable_added g)

-- and where a type constructor is
abbrev pub ApplicationKeepsOuter : Type 0
ApplicationKeepsOuter = (c : ℕ) (ns : List ℕ) (outer : Bool) (g : Graph) → IsWellFormed g → OuterStays g (applied c ns outer g)

-- and in a graph with further types
abbrev pub MadeKeepsOuter : Type 0
MadeKeepsOuter = (g h : Graph) → IsMade g h → IsWellFormed g → OuterStays g h

-- and where types become outer
abbrev pub OuterKeepsOuter : Type 0
OuterKeepsOuter = (steps : ℕ) (ns : List ℕ) (g : Graph) → OuterStays g (made_outer steps ns g)

-- and behind a copy
abbrev pub CopyKeepsOuter : Type 0
CopyKeepsOuter = (n c : ℕ) (g h : Graph) → IsWellFormed g → copied n g ≡ copy_is c h → OuterStays g h

-- and where two types were made equal, in as many steps as there may be
abbrev pub UnifyKeepsOuter : Type 0
UnifyKeepsOuter =
    (a b : ℕ) (g h : Graph) → IsWellFormed g → a < length g.nodes → b < length g.nodes
    → unified 18446744073709551615 ((a, b) ∷ []) g ≡ unified_is true h → OuterStays g h

-- an outer type stays outer where others become so
abbrev pub OuterIsOuterStill : Type 0
OuterIsOuterStill = (steps : ℕ) (ns : List ℕ) (g : Graph) (n : ℕ) → IsOuter g n → IsOuter (made_outer steps ns g) n

-- and those are outer then
abbrev pub TheyBecomeOuter : Type 0
TheyBecomeOuter =
    (ns : List ℕ) (g : Graph) → IsWellFormed g → AreNumbers (length g.nodes) ns → length ns ≤ 33554432
    → AllByRecursion (IsOuter (made_outer 18446744073709551615 ns g)) ns

-- so at the end of an item what was outer or given is outer
abbrev pub EndMakesOuter : Type 0
EndMakesOuter =
    (g : Graph) → IsWellFormed g → (n : ℕ) → IsOuterOr g g.given n → AreNumbers (length g.nodes) g.given
    → length g.given ≤ 33554432 → IsOuter (item_ended g) n

-- where types become outer, types and arguments aren't more or fewer
abbrev pub OuterKeepsNumbers : Type 0
OuterKeepsNumbers = (steps : ℕ) (ns : List ℕ) (g : Graph) → AsMany g (made_outer steps ns g)

-- nor at the end of an item, where nothing is given
abbrev pub EndKeepsNumbers : Type 0
EndKeepsNumbers = (g : Graph) → AsMany g (item_ended g) × ((item_ended g).given ≡ [])

-- a copy has no fewer types and arguments behind it, and gives nothing
abbrev pub CopyKeepsNumbers : Type 0
CopyKeepsNumbers =
    (n c : ℕ) (g h : Graph) → copied n g ≡ copy_is c h
    → (length g.nodes ≤ length h.nodes) × (length g.arguments ≤ length h.arguments) × (h.given ≡ g.given)
