-- The laws of the types of the built-in operations: what is made for them, and that they are those of their rows.
use Rattle.std.specs.Prelude.{◌≡◌, ℕ, ◌≤◌, ◌<◌, false, List, length, take}
use Rattle.effect_meaning.specs.declared.core_nodes.Operation.{Operation}
use Rattle.effect_meaning.specs.ArenaTrees.{operation_of}
use Rattle.type_terms.specs.TypeTrees.{Ty, Tys}
use Rattle.type_terms.specs.OperationTypes.{OperationHas}
use Rattle.type_graph.specs.Graph.{Graph, node_at, built_in, variable_added, applied}
use Rattle.type_graph.specs.Signatures.{Signed, signature_of}
use Rattle.type_readings.specs.Readings.{trees_of, Reads}
use Rattle.type_readings.specs.WellFormed.{AreNumbers, IsWellFormed}

-- a graph is made from another one by further types
pub data IsMade (g : Graph) : Graph → Type 0 where
  -- nothing is made
  NothingMade : IsMade g g
  -- one more variable
  VariableMade : (h : Graph) → IsMade g h → IsMade g (variable_added h)
  -- one more type constructor, not outer, with types that are there by then as its arguments
  TypeMade : (c : ℕ) (ns : List ℕ) (h : Graph) → AreNumbers (length h.nodes) ns → IsMade g h → IsMade g (applied c ns false h)

-- what is made has no fewer types and arguments, and the item at hand has given the same
abbrev pub MadeIsLonger : Type 0
MadeIsLonger =
    (g h : Graph) → IsMade g h → (length g.nodes ≤ length h.nodes) × (length g.arguments ≤ length h.arguments) × (h.given ≡ g.given)

-- each type that was there stays as it is
abbrev pub MadeKeepsTypes : Type 0
MadeKeepsTypes = (g h : Graph) → IsMade g h → (m : ℕ) → m < length g.nodes → node_at h.nodes m ≡ node_at g.nodes m

-- it is well formed, where there is room for it
abbrev pub MadeKeepsForm : Type 0
MadeKeepsForm =
    (g h : Graph) → IsMade g h → IsWellFormed g → length h.nodes ≤ 33554432 → length h.arguments ≤ 67108864 → IsWellFormed h

-- and what reads it reads the graph before
abbrev pub MadeKeepsReadings : Type 0
MadeKeepsReadings =
    (g h : Graph) (f : ℕ → Ty) → IsMade g h → IsWellFormed g → length h.nodes ≤ 33554432 → length h.arguments ≤ 67108864
    → Reads f h → Reads f g

-- for the types of an operation only new types are made, and they aren't outer
abbrev pub SignatureIsMade : Type 0
SignatureIsMade = (op : Operation) (g : Graph) → 6 ≤ length g.nodes → IsMade g (signature_of op g).types

-- the parts of an operation and what it gives have types of the graph behind, and it has no more parts than there are types of parts
pub record HasNumbers (s : Signed) : Type 0 where
  pub parts : AreNumbers (length s.types.nodes) s.signature.parts
  pub gives : s.signature.gives < length s.types.nodes
  pub count : s.signature.count ≤ length s.signature.parts

-- so it is for each operation
abbrev pub SignatureHasNumbers : Type 0
SignatureHasNumbers = (op : Operation) (g : Graph) → 6 ≤ length g.nodes → HasNumbers (signature_of op g)

-- the types of the parts of an operation
abbrev pub parts_of : Signed → List ℕ
parts_of s = take s.signature.count s.signature.parts

-- whatever reads the graph behind gives the parts of an operation and its result an instance of its row
abbrev pub SignatureIsSound : Type 0
SignatureIsSound =
    (op : Operation) (g : Graph) (f : ℕ → Ty) → IsWellFormed g → 6 ≤ length g.nodes → Reads f built_in
    → length (signature_of op g).types.nodes ≤ 33554432 → length (signature_of op g).types.arguments ≤ 67108864
    → Reads f (signature_of op g).types
    → OperationHas (operation_of op) (trees_of f (parts_of (signature_of op g))) (f (signature_of op g).signature.gives)

-- something reads the graph behind, gives as many types as were there the same trees as another reading, and the parts and the
-- result these trees
pub record ReadsWith (f : ℕ → Ty) (types : ℕ) (s : Signed) (ts : Tys) (t : Ty) : Type 0 where
  pub reading : ℕ → Ty
  pub reads : Reads reading s.types
  pub before : (m : ℕ) → m < types → reading m ≡ f m
  pub parts : trees_of reading (parts_of s) ≡ ts
  pub gives : reading s.signature.gives ≡ t

-- and each instance of its row they may have, with all types before as they are
abbrev pub SignatureIsComplete : Type 0
SignatureIsComplete =
    (op : Operation) (g : Graph) (f : ℕ → Ty) → IsWellFormed g → 6 ≤ length g.nodes → Reads f built_in → Reads f g
    → length (signature_of op g).types.nodes ≤ 33554432 → length (signature_of op g).types.arguments ≤ 67108864
    → (ts : Tys) (t : Ty) → OperationHas (operation_of op) ts t → ReadsWith f (length g.nodes) (signature_of op g) ts t
