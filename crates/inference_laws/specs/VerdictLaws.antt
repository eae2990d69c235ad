-- What the verdict on a program says of the trees that the types of its walk stand for.
use Rattle.std.specs.Prelude.{◌≡◌, ℕ, ◌<◌, ◌≤◌, ◌⊎◌, List, length, map, Some, None, Result, Ok, Err}
use Rattle.std.specs.List.{AllByRecursion, Any}
use Rattle.fx_base.specs.declared.refusal.Place.{Place}
use Rattle.effect_meaning.specs.Arena.{Parts}
use Rattle.type_terms.specs.declared.base_type.BaseTy.{BaseTy}
use Rattle.type_terms.specs.TypeTrees.{Ty, size, base_ty, IsBase}
use Rattle.type_graph.specs.Graph.{Graph}
use Rattle.type_readings.specs.Readings.{Reads, LeavesOpen}
use Rattle.ml_infer.specs.declared.inference.Compared.{Compared}
use Rattle.ml_infer.specs.declared.inference.End.TheVariants as ends
use Rattle.ml_infer.specs.declared.inference.Inference.{Inference}
use Rattle.ml_infer.specs.declared.verdict.Fault.{Fault}
use Rattle.ml_infer.specs.declared.verdict.Fault.TheVariants as fault
use Rattle.ml_infer.specs.Verdict.{walked, IsVerdict}
use Rattle.inference_laws.specs.Whole.{HasRoom, IsWhole}

-- the whole walk over a program
abbrev pub whole_walk : Parts → Inference
whole_walk p = walked p 18446744073709551615

-- there is room for the types of a walk, which is whole, and these comparisons are at its types
pub record IsThere (s : Inference) (order : List Compared) : Type 0 where
  pub room : HasRoom s.types
  pub whole : IsWhole s
  pub compared : AllByRecursion (λ c. c.found < length s.types.nodes) order

-- the walk went to its end, whatever reads its types has the comparisons at just these types, and a most general reading is there,
-- in which no definition is too large
pub record IsAccepted (s : Inference) (order : List Compared) (bs : List BaseTy) : Type 0 where
  pub there : IsThere s order
  pub ended : s.end ≡ None
  pub compared : (f : ℕ → Ty) → Reads f s.types → map (λ c. f c.found) order ≡ map base_ty bs
  pub reading : ℕ → Ty
  pub reads : Reads reading s.types
  pub leaves_open : LeavesOpen reading s.types
  pub small : AllByRecursion (λ d. size (reading d) ≤ 4096) s.definitions

-- the walk ended with a fault
abbrev pub HasFault : Inference → Type 0
HasFault s = (at : Place) × (s.end ≡ Some (ends.Fault at))

-- nothing reads a graph: a type is a part of itself
abbrev pub IsUnread : Graph → Type 0
IsUnread g = (f : ℕ → Ty) → Reads f g → ⊥

-- the walk went to its end, and a most general reading of its types has a comparison of this place at none of the five types
pub record ComparesOther (s : Inference) (order : List Compared) (at : Place) : Type 0 where
  pub ended : s.end ≡ None
  pub reading : ℕ → Ty
  pub reads : Reads reading s.types
  pub leaves_open : LeavesOpen reading s.types
  pub compared : Any (λ c. (c.place ≡ at) × (IsBase (reading c.found) → ⊥)) order

-- the walk went to its end, and a most general reading of its types has a definition that is too large
pub record HasLarge (s : Inference) : Type 0 where
  pub ended : s.end ≡ None
  pub reading : ℕ → Ty
  pub reads : Reads reading s.types
  pub leaves_open : LeavesOpen reading s.types
  pub large : Any (λ d. 4097 ≤ size (reading d)) s.definitions

-- whatever the verdict is, there is room for the types of the walk, it is whole, and the comparisons are at its types
abbrev pub WalkIsThere : Type 0
WalkIsThere = (p : Parts) (r : Result (List BaseTy) Fault) (v : IsVerdict p r) → IsThere (whole_walk p) v.order

-- where a program is accepted, its types are read, with the comparisons at the types of the answer
abbrev pub AcceptedIsRead : Type 0
AcceptedIsRead = (p : Parts) (bs : List BaseTy) (v : IsVerdict p (Ok bs)) → IsAccepted (whole_walk p) v.order bs

-- where it is refused for its types, the walk ended with a fault, or nothing reads its types, or a comparison of the answer's place
-- is at another type
abbrev pub RefusedIsUnread : Type 0
RefusedIsUnread =
    (p : Parts) (at : Place) (v : IsVerdict p (Err (fault.IllTyped at)))
    → HasFault (whole_walk p) ⊎ IsUnread (whole_walk p).types ⊎ ComparesOther (whole_walk p) v.order at

-- where a type is too large, a definition's is
abbrev pub LargeIsRead : Type 0
LargeIsRead = (p : Parts) → IsVerdict p (Err fault.TooLarge) → HasLarge (whole_walk p)
