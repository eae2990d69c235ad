-- The laws of graphs, of unification, of most general readings, and of the sizes of types.
use Rattle.std.specs.Prelude.{◌≡◌, ◌↔◌, ℕ, ◌+◌, ◌*◌, ◌≤◌, ◌<◌, Some, None, Bool, true, false, IsTrue, List, [], ◌∷◌, length}
use Rattle.std.specs.List.{AllByRecursion}
use Rattle.type_terms.specs.TypeTrees.{Ty, Constructed, instance_of}
use Rattle.type_graph.specs.Copied.{copied, copy_is}
use Rattle.type_graph.specs.Graph.{Graph, node_at, root, form_of, is_variable, built_in, variable_added, applied}
use Rattle.type_graph.specs.Outer.{made_outer, item_ended}
use Rattle.type_graph.specs.Sized.{Counting, all_counted}
use Rattle.type_graph.specs.Unified.{unified, unified_is}
use Rattle.type_readings.specs.Readings.{trees_of, Reads, LeavesOpen, HasSizes, AllEqual}
use Rattle.type_readings.specs.WellFormed.{AreNumbers, ArePairs, IsRoot, IsWellFormed, IsOuter, IsCopyable, IsGiving}

-- the built-in types are a well-formed graph
abbrev pub BuiltInIsWellFormed : Type 0
BuiltInIsWellFormed = IsWellFormed built_in

-- a graph with a new variable is well formed, where there may be one more type
abbrev pub VariableKeepsForm : Type 0
VariableKeepsForm = (g : Graph) → IsWellFormed g → length g.nodes < 33554432 → IsWellFormed (variable_added g)

-- and read by what reads the graph
abbrev pub VariableAsksNothing : Type 0
VariableAsksNothing = (g : Graph) (f : ℕ → Ty) → IsWellFormed g → Reads f (variable_added g) ↔ Reads f g

-- a graph with a type constructor and its arguments is well formed, where there may be that many
abbrev pub ApplicationKeepsForm : Type 0
ApplicationKeepsForm =
    (c : ℕ) (ns : List ℕ) (outer : Bool) (g : Graph) → IsWellFormed g → AreNumbers (length g.nodes) ns → length g.nodes < 33554432
    → length g.arguments + length ns ≤ 67108864 → IsWellFormed (applied c ns outer g)

-- and read by what reads the graph and gives the new number the type constructor with the trees of its arguments
abbrev pub ApplicationIsRead : Type 0
ApplicationIsRead =
    (c : ℕ) (ns : List ℕ) (outer : Bool) (g : Graph) (f : ℕ → Ty) → IsWellFormed g
    → Reads f (applied c ns outer g) ↔ (Reads f g × (f (length g.nodes) ≡ Constructed c (trees_of f ns)))

-- in a well-formed graph no link leads on from the root of a type
abbrev pub RootIsRoot : Type 0
RootIsRoot = (g : Graph) → IsWellFormed g → (n : ℕ) → IsRoot g.nodes (root g.nodes n)

-- which has the tree of the type
abbrev pub RootIsEqual : Type 0
RootIsEqual = (g : Graph) (f : ℕ → Ty) → IsWellFormed g → Reads f g → (n : ℕ) → f n ≡ f (root g.nodes n)

-- a graph of which types become outer is well formed
abbrev pub OuterKeepsForm : Type 0
OuterKeepsForm = (steps : ℕ) (ns : List ℕ) (g : Graph) → IsWellFormed g → IsWellFormed (made_outer steps ns g)

-- and read by what reads the graph
abbrev pub OuterAsksNothing : Type 0
OuterAsksNothing = (steps : ℕ) (ns : List ℕ) (g : Graph) (f : ℕ → Ty) → Reads f (made_outer steps ns g) ↔ Reads f g

-- at the end of an item a graph stays well formed
abbrev pub EndKeepsForm : Type 0
EndKeepsForm = (g : Graph) → IsWellFormed g → IsWellFormed (item_ended g)

-- and is read by the same
abbrev pub EndAsksNothing : Type 0
EndAsksNothing = (g : Graph) (f : ℕ → Ty) → Reads f (item_ended g) ↔ Reads f g

-- behind a copy, what was known of each type that was there is known of it
abbrev pub CopyKeepsTypes : Type 0
CopyKeepsTypes =
    (n c : ℕ) (g h : Graph) → copied n g ≡ copy_is c h → (m : ℕ) → m < length g.nodes → (node_at h.nodes m).form ≡ (node_at g.nodes m).form

-- what reads the graph behind a copy reads the graph before
abbrev pub CopyKeepsReadings : Type 0
CopyKeepsReadings = (n c : ℕ) (g h : Graph) (f : ℕ → Ty) → IsWellFormed g → copied n g ≡ copy_is c h → Reads f h → Reads f g

-- copies can be told from the built-in types
abbrev pub BuiltInIsCopyable : Type 0
BuiltInIsCopyable = IsCopyable built_in

-- and, where they can be told from the types of a graph, from those of one with a new variable
abbrev pub VariableKeepsCopyable : Type 0
VariableKeepsCopyable = (g : Graph) → IsWellFormed g → IsCopyable g → IsCopyable (variable_added g)

-- or with a type constructor, of which the arguments are outer where it is
abbrev pub ApplicationKeepsCopyable : Type 0
ApplicationKeepsCopyable =
    (c : ℕ) (ns : List ℕ) (outer : Bool) (g : Graph) → IsWellFormed g → IsCopyable g → AreNumbers (length g.nodes) ns
    → (outer ≡ true → AllByRecursion (IsOuter g) ns) → IsCopyable (applied c ns outer g)

-- or where types and their parts become outer
abbrev pub OuterKeepsCopyable : Type 0
OuterKeepsCopyable =
    (ns : List ℕ) (g : Graph) → IsWellFormed g → IsCopyable g → AreNumbers (length g.nodes) ns → length ns ≤ 33554432
    → IsCopyable (made_outer 18446744073709551615 ns g)

-- and, at the end of an item, from those of a graph where only what the item gave isn't outer in an outer type
abbrev pub EndIsCopyable : Type 0
EndIsCopyable = (g : Graph) → IsWellFormed g → IsGiving g → IsCopyable (item_ended g)

-- in the built-in types all that isn't outer in outer types is what the item at hand gave: nothing
abbrev pub BuiltInIsGiving : Type 0
BuiltInIsGiving = IsGiving built_in

-- and, where it is so in a graph, it is so in one with a new variable
abbrev pub VariableKeepsGiving : Type 0
VariableKeepsGiving = (g : Graph) → IsWellFormed g → IsGiving g → IsGiving (variable_added g)

-- or with a type constructor, of which the arguments are outer where it is
abbrev pub ApplicationKeepsGiving : Type 0
ApplicationKeepsGiving =
    (c : ℕ) (ns : List ℕ) (outer : Bool) (g : Graph) → IsWellFormed g → IsGiving g → AreNumbers (length g.nodes) ns
    → (outer ≡ true → AllByRecursion (IsOuter g) ns) → IsGiving (applied c ns outer g)

-- and where copies can be told and nothing was given
abbrev pub CopyableIsGiving : Type 0
CopyableIsGiving = (g : Graph) → IsCopyable g → g.given ≡ [] → IsGiving g

-- or where types and their parts become outer
abbrev pub OuterKeepsGiving : Type 0
OuterKeepsGiving =
    (ns : List ℕ) (g : Graph) → IsWellFormed g → IsGiving g → AreNumbers (length g.nodes) ns → length ns ≤ 33554432
    → IsGiving (made_outer 18446744073709551615 ns g)

-- the copy of a type is a type of the graph behind
abbrev pub CopyIsNumber : Type 0
CopyIsNumber =
    (n c : ℕ) (g h : Graph) → IsWellFormed g → IsCopyable g → n < length g.nodes → copied n g ≡ copy_is c h
    → length h.nodes ≤ 33554432 → c < length h.nodes

-- which is well formed, where there is room for it
abbrev pub CopyKeepsForm : Type 0
CopyKeepsForm =
    (n c : ℕ) (g h : Graph) → IsWellFormed g → IsCopyable g → n < length g.nodes → copied n g ≡ copy_is c h
    → length h.nodes ≤ 33554432 → length h.arguments ≤ 67108864 → IsWellFormed h

-- and of which a further copy can be told
abbrev pub CopyKeepsCopyable : Type 0
CopyKeepsCopyable =
    (n c : ℕ) (g h : Graph) → IsWellFormed g → IsCopyable g → n < length g.nodes → copied n g ≡ copy_is c h
    → length h.nodes ≤ 33554432 → IsCopyable h

-- two readings give outer types the same trees
abbrev pub AgreeOnOuter : (f k : ℕ → Ty) → Graph → Type 0
AgreeOnOuter f k g = (m : ℕ) → IsOuter g m → k m ≡ f m

-- whatever tree the copy of a type has, the type may have too, with the outer types as they are
abbrev pub CopyReads : Type 0
CopyReads =
    (n c : ℕ) (g h : Graph) (f : ℕ → Ty) → IsWellFormed g → IsCopyable g → n < length g.nodes → copied n g ≡ copy_is c h
    → length h.nodes ≤ 33554432 → Reads f h → (k : ℕ → Ty) × Reads k g × AgreeOnOuter f k g × (k n ≡ f c)

-- whatever tree a type may have, with the outer types as they are, its copy may have, with all types before it as they are
abbrev pub CopyIsFree : Type 0
CopyIsFree =
    (n c : ℕ) (g h : Graph) (f k : ℕ → Ty) → IsWellFormed g → IsCopyable g → n < length g.nodes → copied n g ≡ copy_is c h
    → length h.nodes ≤ 33554432 → Reads f g → Reads k g → AgreeOnOuter f k g
    → (t : ℕ → Ty) × Reads t h × ((m : ℕ) → m < length g.nodes → t m ≡ f m) × (t c ≡ k n)

-- behind pairs that were made equal, or that clashed, a graph is as well formed as before
abbrev pub KeepsForm : Type 0
KeepsForm =
    (steps : ℕ) (ps : List (ℕ × ℕ)) (g h : Graph) (fits : Bool) → IsWellFormed g → ArePairs (length g.nodes) ps
    → unified steps ps g ≡ unified_is fits h → IsWellFormed h

-- types and arguments aren't more or fewer then
abbrev pub KeepsNumbers : Type 0
KeepsNumbers =
    (steps : ℕ) (ps : List (ℕ × ℕ)) (g h : Graph) (fits : Bool)
    → unified steps ps g ≡ unified_is fits h → (length h.nodes ≡ length g.nodes) × (h.arguments ≡ g.arguments)

-- behind pairs that were made equal, all that isn't outer in outer types is still what the item at hand gave
abbrev pub UnifyKeepsGiving : Type 0
UnifyKeepsGiving =
    (steps : ℕ) (ps : List (ℕ × ℕ)) (g h : Graph) → IsWellFormed g → IsGiving g → ArePairs (length g.nodes) ps
    → unified steps ps g ≡ unified_is true h → IsGiving h

-- an outer type of which something is known stays so
abbrev pub FixedStay : Type 0
FixedStay =
    (steps : ℕ) (ps : List (ℕ × ℕ)) (g h : Graph) (fits : Bool) → IsWellFormed g → ArePairs (length g.nodes) ps
    → unified steps ps g ≡ unified_is fits h → (n : ℕ) → IsOuter g n → is_variable (form_of g.nodes n) ≡ false
    → IsOuter h n × (is_variable (form_of h.nodes n) ≡ false)

-- what reads the graph behind pairs that were made equal reads the graph before, and makes each pair equal
abbrev pub Equates : Type 0
Equates =
    (steps : ℕ) (ps : List (ℕ × ℕ)) (g h : Graph) (f : ℕ → Ty) → IsWellFormed g → ArePairs (length g.nodes) ps
    → unified steps ps g ≡ unified_is true h → Reads f h → Reads f g × AllEqual f ps

-- what reads the graph before and makes each pair equal reads the graph behind: none is lost
abbrev pub LosesNone : Type 0
LosesNone =
    (steps : ℕ) (ps : List (ℕ × ℕ)) (g h : Graph) (f : ℕ → Ty) → IsWellFormed g → ArePairs (length g.nodes) ps
    → unified steps ps g ≡ unified_is true h → Reads f g → AllEqual f ps → Reads f h

-- where pairs can't be made equal in that many steps, nothing that reads the graph makes them equal
abbrev pub RefusesRightly : Type 0
RefusesRightly =
    (steps : ℕ) (ps : List (ℕ × ℕ)) (g h : Graph) (f : ℕ → Ty) → IsWellFormed g → ArePairs (length g.nodes) ps
    → length ps + length g.nodes * length g.arguments ≤ steps
    → unified steps ps g ≡ unified_is false h → Reads f g → AllEqual f ps → ⊥

-- in as many steps as there may be, two types are made equal where something that reads the graph does so, and not where nothing
-- does; and the same reads the graph behind
abbrev pub DecidesPair : Type 0
DecidesPair =
    (a b : ℕ) (g h : Graph) (fits : Bool) (f : ℕ → Ty) → IsWellFormed g → a < length g.nodes → b < length g.nodes
    → unified 18446744073709551615 ((a, b) ∷ []) g ≡ unified_is fits h
    → (Reads f g × (f a ≡ f b)) ↔ (IsTrue fits × Reads f h)

-- each reading is an instance of one that leaves variables open: the trees of these stand for the type variables
abbrev pub OpenIsMostGeneral : Type 0
OpenIsMostGeneral =
    (g : Graph) (f k : ℕ → Ty) → IsWellFormed g → Reads f g → LeavesOpen f g → Reads k g → (n : ℕ) → k n ≡ instance_of k (f n)

-- where all types are counted, there is a reading that leaves variables open, and the sizes are those of its trees
abbrev pub CountedIsRead : Type 0
CountedIsRead =
    (g : Graph) (s : Counting) → IsWellFormed g → all_counted g ≡ Some s → (f : ℕ → Ty) × Reads f g × LeavesOpen f g × HasSizes f g s

-- where they can't be, since one is a part of itself, nothing reads the graph
abbrev pub UncountedIsUnread : Type 0
UncountedIsUnread = (g : Graph) (f : ℕ → Ty) → IsWellFormed g → all_counted g ≡ None → Reads f g → ⊥
