-- The laws of written types that are read.
use Rattle.std.specs.Prelude.{◌≡◌, ℕ, ◌+◌, ◌<◌, ◌≤◌, length, None}
use Rattle.fx_base.specs.declared.refusal.Place.{Place}
use Rattle.effect_meaning.specs.Arena.{Parts, IsArena}
use Rattle.effect_meaning.specs.ArenaTrees.{program, type_at, types_of}
use Rattle.type_terms.specs.TypeTrees.{Ty}
use Rattle.type_terms.specs.WrittenTypes.{Means}
use Rattle.type_readings.specs.Readings.{Reads}
use Rattle.ml_infer.specs.declared.inference.Inference.{Inference}
use Rattle.ml_infer.specs.declared.written.Variables.{Variables}
use Rattle.ml_infer.specs.declared.written.Variables.TheVariants as variables
use Rattle.ml_infer.specs.Written.{written}
use Rattle.inference_laws.specs.Whole.{HasRoom, VariablesAreThere, IsWhole}
use Rattle.inference_laws.specs.Meanings.{VariablesAgree, ReadsAreMeant, LeadsTo, IsBelow}

-- where the walk goes on behind a written type in an item, the type means the tree that it was read as, whatever reads the types
-- there, if each type variable stands for the tree of what is known of it
abbrev pub ItemTypeIsMeant : Type 0
ItemTypeIsMeant =
    (p : Parts) (n : ℕ) (at : Place) (s : Inference) → IsArena p → IsWhole s → ReadsAreMeant p s → n < length p.types
    → HasRoom (written p n variables.OfItem at s).state.types → (written p n variables.OfItem at s).state.end ≡ None
    → (f vs : ℕ → Ty) → Reads f (written p n variables.OfItem at s).state.types
    → VariablesAgree f vs (written p n variables.OfItem at s).state
    → Means (program p).types vs (type_at (types_of p) n) (f (written p n variables.OfItem at s).found)

-- so does one in a declaration, if each type variable is a parameter and stands for the tree of its type
abbrev pub DeclaredTypeIsMeant : Type 0
DeclaredTypeIsMeant =
    (p : Parts) (n first count : ℕ) (at : Place) (s : Inference) → IsArena p → IsWhole s → ReadsAreMeant p s → n < length p.types
    → first + count ≤ length s.types.nodes → IsBelow count (type_at (types_of p) n)
    → HasRoom (written p n (variables.Parameters first count) at s).state.types
    → (written p n (variables.Parameters first count) at s).state.end ≡ None
    → (f vs : ℕ → Ty) → Reads f (written p n (variables.Parameters first count) at s).state.types
    → ((v : ℕ) → v < count → vs v ≡ f (first + v))
    → Means (program p).types vs (type_at (types_of p) n) (f (written p n (variables.Parameters first count) at s).found)

-- the state leads to the one behind a written type, where written types without variables still mean what they were read as
abbrev pub WrittenLeads : Type 0
WrittenLeads =
    (p : Parts) (n : ℕ) (vars : Variables) (at : Place) (s : Inference) → IsArena p → IsWhole s
    → VariablesAreThere (length s.types.nodes) vars
    → LeadsTo p s (written p n vars at s).state
