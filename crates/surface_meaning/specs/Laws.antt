-- The laws of what a program means.
use Rattle.std.specs.Prelude.{◌≡◌, ◌⊎◌, ◌↔◌, ℕ, ◌<◌, false, List, [], ◌∷◌, ◌++◌, Ok, Err}
use Rattle.fx_base.specs.declared.refusal.Place.{Place}
use Rattle.ml_syntax.specs.declared.prog.Prog.{Prog}
use Rattle.effect_meaning.specs.Terms.{Item, Program}
use Rattle.effect_meaning.specs.Builtins.{HasBuiltins}
use Rattle.surface_meaning.specs.Meanings.{name_of_node}
use Rattle.surface_meaning.specs.CoreOf.{prelude_declared, breaches, is_earlier, core_of}

-- a place is one of these
abbrev pub IsOneOf : Place → List Place → Type 0
IsOneOf p [] = ⊥
IsOneOf p (q ∷ qs) = (p ≡ q) ⊎ IsOneOf p qs

-- none of the places stands before this one
abbrev pub NoneBefore : Place → List Place → Type 0
NoneBefore p [] = Unit {0}
NoneBefore p (q ∷ qs) = (is_earlier q p ≡ false) × NoneBefore p qs

-- a program is refused at the first breach in text order
abbrev pub FirstBreach : Type 0
FirstBreach =
    (prelude prog : Prog) (file : List ℕ) (place : Place)
    → core_of prelude prog file ≡ Err place
    → IsOneOf place (breaches prelude prog file) × NoneBefore place (breaches prelude prog file)

-- a program has Core exactly where there is no breach
abbrev pub CoreWithoutBreach : Type 0
CoreWithoutBreach =
    (prelude prog : Prog) (file : List ℕ)
    → breaches prelude prog file ≡ [] ↔ (p : Program) × (core_of prelude prog file ≡ Ok p)

-- the tables of a program's Core begin with the built-in rows
abbrev pub BeginsWithBuiltins : Type 0
BeginsWithBuiltins =
    (prelude prog : Prog) (file : List ℕ) (p : Program) → core_of prelude prog file ≡ Ok p → HasBuiltins p

-- the value items of a program begin with the prelude's
abbrev pub BeginsWithPrelude : Type 0
BeginsWithPrelude =
    (prelude prog : Prog) (file : List ℕ) (p : Program)
    → core_of prelude prog file ≡ Ok p
    → (more : List Item) × (p.items ≡ (prelude_declared prelude prog file).program.items ++ more)

-- two names have one number only where they are the same name of the same node
abbrev pub NumbersDiffer : Type 0
NumbersDiffer = (i j k l : ℕ) → k < 6 → l < 6 → name_of_node i k ≡ name_of_node j l → (i ≡ j) × (k ≡ l)
