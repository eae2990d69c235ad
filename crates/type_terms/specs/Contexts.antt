-- What typing knows where a term stands.
use Rattle.std.specs.Prelude.{◌≡◌, ℕ, ◌==◌, List, [], ◌∷◌, ◌++◌, MatchBool, ◌↔◌}
use Rattle.effect_meaning.specs.Terms.{Program}
use Rattle.type_terms.specs.TypeTrees.{Ty}

-- names, each with its type, the latest first
abbrev pub Names : Type 0
Names = List (ℕ × Ty)

-- the name has this type among these; a name that isn't among them, if something else holds
abbrev pub NameHas : Names → ℕ → Ty → Type 0 → Type 0
NameHas [] x t otherwise = otherwise
NameHas (n ∷ ns) x t otherwise = MatchBool (x == n.0) (t ≡ n.1) (NameHas ns x t otherwise)

-- both give each name the same type
abbrev pub SameNames : Names → Names → Type 0
SameNames ns ms = (x : ℕ) (t : Ty) → NameHas ns x t ⊥ ↔ NameHas ms x t ⊥

-- where a term stands: the program with its tables, the types that each use of a top-level name may have, the types of the
-- item's type variables, and the local names
pub record Context : Type 1 where
  pub program : Program
  pub tops : ℕ → Ty → Type 0
  pub variables : ℕ → Ty
  pub names : Names

-- with a further local name
abbrev pub with_name : ℕ → Ty → Context → Context
with_name x t c = record c { names = (x, t) ∷ c.names }

-- with further local names
abbrev pub with_names : Names → Context → Context
with_names ns c = record c { names = ns ++ c.names }
