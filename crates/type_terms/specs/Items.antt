-- The typing rules of items. A top-level let that binds a name to a function literal generalises it: each use may have any type
-- that a copy of the definition's equations allows, with unknowns of its own. The functions of a top-level let rec are
-- generalised likewise, behind their group. Every other top-level name has one type, which all copies share.
use Rattle.std.specs.Prelude.{ℕ, Bool, true, false, ◌==◌, List, [], ◌∷◌, ◌++◌, map, if◌then◌else◌, MatchBool}
use Rattle.effect_meaning.specs.Terms.{Term, Fun, Annot, Functions, Item, Define, Destructure, DefineRec, Evaluate, Program}
use Rattle.effect_meaning.specs.Scoped.{holds, function_names}
use Rattle.type_terms.specs.TypeTrees.{Ty}
use Rattle.type_terms.specs.Contexts.{Names, NameHas, Context, with_names}
use Rattle.type_terms.specs.PatternTypes.{PatternHas}
use Rattle.type_terms.specs.Typing.{HasType, FunctionsHave}

-- top-level names: some with one type each, one that is generalised, or those of a group of functions
pub data Top : Type 0 where
  OneType : Names → Top
  Generalised : (x : ℕ) → Term → Top
  Group : Functions → Top

-- a function literal, with its type or without
abbrev pub is_function : Term → Bool
is_function (Fun x body) = true
is_function (Annot a w) = is_function a
is_function _ = false

-- the context of an item, without local names
abbrev pub item_context : Program → (ℕ → Ty → Type 0) → (ℕ → Ty) → Context
item_context p uses variables = record { program = p; tops = uses; variables = variables; names = [] }

-- the types that a use of a top-level name may have, behind these top-level names, the latest first
abbrev pub uses : Program → List Top → ℕ → Ty → Type 0
uses p [] x t = ⊥
uses p (OneType names ∷ tops) x t = NameHas names x t (uses p tops x t)
uses p (Generalised y a ∷ tops) x t =
    MatchBool (x == y) ((variables : ℕ → Ty) × HasType (item_context p (uses p tops) variables) a t) (uses p tops x t)
uses p (Group fs ∷ tops) x t =
    MatchBool (holds (function_names fs) x)
    ((variables : ℕ → Ty) × (names : Names) × FunctionsHave (with_names names (item_context p (uses p tops) variables)) fs names
    × NameHas names x t ⊥)
    (uses p tops x t)

-- the context of an item behind these top-level names
abbrev pub behind : Program → List Top → (ℕ → Ty) → Context
behind p tops variables = item_context p (uses p tops) variables

-- the name of a definition, whose own type is t
abbrev pub defined : ℕ → Term → Ty → Top
defined x a t = if is_function a then Generalised x a else OneType ((x, t) ∷ [])

-- the equations of the items have a solution, behind these top-level names. The type variables in the text of an item are
-- its own
abbrev pub ItemsHave : Program → List Top → List Item → Type 0
ItemsHave p tops [] = Unit {0}
ItemsHave p tops (Define x a ∷ is) =
    (variables : ℕ → Ty) × (t : Ty) × HasType (behind p tops variables) a t × ItemsHave p (defined x a t ∷ tops) is
ItemsHave p tops (Destructure at q a ∷ is) =
    (variables : ℕ → Ty) × (t : Ty) × (names : Names) × HasType (behind p tops variables) a t
    × PatternHas (behind p tops variables) q t names × ItemsHave p (OneType names ∷ tops) is
ItemsHave p tops (DefineRec fs ∷ is) =
    (variables : ℕ → Ty) × (names : Names) × FunctionsHave (with_names names (behind p tops variables)) fs names
    × ItemsHave p (Group fs ∷ tops) is
ItemsHave p tops (Evaluate a ∷ is) =
    (variables : ℕ → Ty) × (t : Ty) × HasType (behind p tops variables) a t × ItemsHave p tops is

-- the types of the top-level definitions in a solution; a definition by a pattern has that of the whole pattern
abbrev pub definition_types : (p : Program) (tops : List Top) (is : List Item) → ItemsHave p tops is → List Ty
definition_types p tops [] h = []
definition_types p tops (Define x a ∷ is) h = h.1 ∷ definition_types p (defined x a h.1 ∷ tops) is h.3
definition_types p tops (Destructure at q a ∷ is) h = h.1 ∷ definition_types p (OneType h.2 ∷ tops) is h.5
definition_types p tops (DefineRec fs ∷ is) h = map (λ n. n.1) h.1 ++ definition_types p (Group fs ∷ tops) is h.3
definition_types p tops (Evaluate a ∷ is) h = definition_types p tops is h.3
