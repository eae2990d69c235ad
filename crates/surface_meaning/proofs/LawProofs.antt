-- The laws hold.
use Rattle.std.proofs.Common.{◌≡◌, refl, ap, subst, List, [], ◌∷◌, Option, Some, None, arith, ◌++◌}
use Rattle.std.specs.Prelude.{Result, Ok, Err}
use Rattle.fx_base.specs.declared.refusal.Place.{Place}
use Rattle.effect_meaning.specs.Terms.{Item, Program}
use Rattle.effect_meaning.specs.Builtins.{HasBuiltins}
use Rattle.surface_meaning.specs.CoreOf.{prelude_declared, breaches, program_behind, earliest, first_breach, unless}
use Rattle.surface_meaning.specs.Laws.{IsOneOf, NoneBefore, FirstBreach, CoreWithoutBreach, BeginsWithBuiltins, BeginsWithPrelude, NumbersDiffer}
use Rattle.surface_meaning.proofs.FirstPlace.{none_before, earliest_among}
use Rattle.surface_meaning.proofs.BuiltinRows.{program_has}
use Rattle.surface_meaning.proofs.PreludeItems.{prelude_first}

-- the place in a refusal
abbrev place_in : Place → Result Program Place → Place
place_in other (Ok p) = other
place_in other (Err place) = place

abbrev IsCore : Result Program Place → Type 0
IsCore (Ok p) = Unit {0}
IsCore (Err place) = ⊥

abbrev IsRefused : Result Program Place → Type 0
IsRefused (Ok p) = ⊥
IsRefused (Err place) = Unit {0}

abbrev program_in : Program → Result Program Place → Program
program_in other (Ok p) = p
program_in other (Err place) = other

refused_first : (qs : List Place) (p : Program) (place : Place)
    → unless (first_breach qs) p ≡ Err place → IsOneOf place qs × NoneBefore place qs
refused_first [] p place h = absurd (subst IsCore h tt)
refused_first (q ∷ qs) p place h =
    let e : earliest q qs ≡ place = ap (place_in q) h
    in (subst (λ m. IsOneOf m (q ∷ qs)) e (earliest_among q qs), subst (λ m. NoneBefore m (q ∷ qs)) e (none_before q qs))

pub first_breach_law : FirstBreach
first_breach_law prelude prog file place h =
    refused_first (breaches prelude prog file) (program_behind prelude prog file) place h

without : (qs : List Place) (p : Program) → qs ≡ [] → (c : Program) × (unless (first_breach qs) p ≡ Ok c)
without qs p h = (p, ap (λ l. unless (first_breach l) p) h)

no_breach : (qs : List Place) (p : Program) → (c : Program) × (unless (first_breach qs) p ≡ Ok c) → qs ≡ []
no_breach [] p h = refl
no_breach (q ∷ qs) p h = absurd (subst IsRefused h.1 tt)

pub core_without_breach_law : CoreWithoutBreach
core_without_breach_law prelude prog file =
    (without (breaches prelude prog file) (program_behind prelude prog file), no_breach (breaches prelude prog file) (program_behind prelude prog file))

same_program : (first : Option Place) (p c : Program) → unless first p ≡ Ok c → p ≡ c
same_program None p c h = ap (program_in p) h
same_program (Some place) p c h = absurd (subst IsRefused h tt)

pub begins_with_builtins_law : BeginsWithBuiltins
begins_with_builtins_law prelude prog file c h =
    subst HasBuiltins (same_program (first_breach (breaches prelude prog file)) (program_behind prelude prog file) c h)
    (program_has prelude prog file)

pub begins_with_prelude_law : BeginsWithPrelude
begins_with_prelude_law prelude prog file c h =
    subst (λ p. (more : List Item) × (p.items ≡ (prelude_declared prelude prog file).program.items ++ more))
    (same_program (first_breach (breaches prelude prog file)) (program_behind prelude prog file) c h)
    (prelude_first prelude prog file)

pub numbers_differ_law : NumbersDiffer
numbers_differ_law i j k l h m e = (omega arith, omega arith)
