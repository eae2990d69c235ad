-- Constructors, records and fields at work.
--   type 'a box = Box of 'a | Empty
--   type cell = { mutable value : int; label : string }
--   type _ Effect.t += Ask : int Effect.t | Tell : string -> unit Effect.t
use Rattle.std.proofs.Common.{◌≡◌, refl, sym, ap, subst, arith, inr, ◌++◌, [], ◌∷◌, Some, None, true, false, ℕ, slice_get, IsTrue, ◌∙◌, ◌&&◌}
use Rattle.std.proofs.lemmas.Option.{same_Some}
use Rattle.effect_meaning.specs.Terms.{Written, Variable, Applied, AndType, NoTypes, Variant, Exception, Effect, Con, ConOf, Record, Field, SetField, Program, Term, Var}
use Rattle.effect_meaning.specs.Builtins.{builtin_types, builtin_variants, int_type, string_type, unit_type, effect_type, some_con, none_con, failure, not_found, unhandled, written}
use Rattle.effect_meaning.specs.Scoped.{differ, same}
use Rattle.type_terms.specs.TypeTrees.{Ty, NoTys, Constructed, one_ty, int, bool, unit, exn, option, effect, type_at}
use Rattle.type_terms.specs.Contexts.{Context}
use Rattle.type_terms.specs.Constructors.{ArgumentIs, no_parameters}
use Rattle.type_terms.specs.Typing.{HasType}
use Rattle.type_terms.proofs.ExampleWords.{number, text, one, two, locally, plain}

-- box and cell
abbrev pub box_type : ℕ
box_type = 17

abbrev pub cell_type : ℕ
cell_type = 18

abbrev pub box : Ty → Ty
box a = Constructed box_type (one_ty a)

abbrev pub cell : Ty
cell = Constructed cell_type NoTys

-- an effect's own type in the text, as int Effect.t
abbrev pub of_effect : ℕ → Written
of_effect type = Applied effect_type (AndType (written type) NoTypes)

abbrev pub declared : Program
declared =
    record plain {
      types = builtin_types ++ record { parameters = 1; fields = None } ∷ record { parameters = 0; fields = Some (0 ∷ 1 ∷ []) } ∷ [];
      variants = builtin_variants ++ record { of_type = box_type; argument = Some (Variable 0) } ∷ record { of_type = box_type; argument = None } ∷ [];
      fields =
          record { of_type = cell_type; index = 0; is_mutable = true; type = written int_type }
          ∷ record { of_type = cell_type; index = 1; is_mutable = false; type = written string_type } ∷ [];
      effects =
          record { argument = None; result = of_effect int_type }
          ∷ record { argument = Some (written string_type); result = of_effect unit_type } ∷ [];
      extended = effect_type ∷ [];
      declarations = 3;
    }

abbrev pub context : Context
context = locally declared []

-- Box 1
constructor_typed : HasType context (ConOf (Variant 4) (number 1)) (box int)
constructor_typed = (_, (_, _, refl, refl, inr refl, refl), refl, refl)

-- Empty has any box type
constant_constructor_typed : (a : Ty) → HasType context (Con (Variant 5)) (box a)
constant_constructor_typed a = ((_, _, refl, refl, inr refl, tt), refl)

-- Box without an argument, and Empty 1
argument_missing : (t : Ty) → HasType context (Con (Variant 4)) t → ⊥
argument_missing t h =
    let row = same_Some _ _ h.0.2 in
    absurd (subst (λ r. ArgumentIs declared.types (type_at h.0.1) r.argument None) (sym row) h.0.5)

argument_unasked : (t : Ty) → HasType context (ConOf (Variant 5) (number 1)) t → ⊥
argument_unasked t h =
    let row = same_Some _ _ h.1.2 in
    absurd (subst (λ r. ArgumentIs declared.types (type_at h.1.1) r.argument (Some h.0)) (sym row) h.1.5)

-- Some 1 and None
some_typed : HasType context (ConOf (Variant some_con) (number 1)) (option int)
some_typed = (_, (_, _, refl, refl, inr refl, refl), refl, refl)

none_typed : HasType context (Con (Variant none_con)) (option bool)
none_typed = ((_, _, refl, refl, inr refl, tt), refl)

-- Failure "a" and Not_found are exceptions; Failure 1 is none
exception_typed : HasType context (ConOf (Exception failure) text) exn
exception_typed = (_, (_, refl, refl, (_, refl, inr refl, refl)), refl, refl)

constant_exception_typed : HasType context (Con (Exception not_found)) exn
constant_exception_typed = ((_, refl, refl, tt), refl)

exception_untyped : (t : Ty) → HasType context (ConOf (Exception failure) (number 1)) t → ⊥
exception_untyped t h =
    let row = same_Some _ _ h.1.1 in
    let argument = subst (λ r. ArgumentIs declared.types no_parameters r.argument (Some h.0)) (sym row) h.1.3 in
    let declared_type = argument.1 in
    let given_type = h.3 in
    grind (arith, declared_type, given_type)

-- Effect.Unhandled Ask is no term
unhandled_untyped : (a : Term) (t : Ty) → HasType context (ConOf (Exception unhandled) a) t → ⊥
unhandled_untyped a t h = let e = h.2 in grind (arith, e)

-- Ask, and Tell "a"
constant_effect_typed : HasType context (Con (Effect 0)) (effect int)
constant_effect_typed = ((_, _, refl, refl, (_, refl, inr refl, (_, _, refl, (_, refl, inr refl, refl), refl)), tt), refl)

effect_typed : HasType context (ConOf (Effect 1) text) (effect unit)
effect_typed =
    (_, (_, _, refl, refl, (_, refl, inr refl, (_, _, refl, (_, refl, inr refl, refl), refl)), (_, refl, inr refl, refl)), refl, refl)

-- Tell 1
effect_untyped : (t : Ty) → HasType context (ConOf (Effect 1) (number 1)) t → ⊥
effect_untyped t h =
    let row = same_Some _ _ h.1.2 in
    let argument = subst (λ r. ArgumentIs declared.types no_parameters r.argument (Some h.0)) (sym row) h.1.5 in
    let declared_type = argument.1 in
    let given_type = h.3 in
    grind (arith, declared_type, given_type)

-- { label = "a"; value = 1 }
record_typed : HasType context (Record (1 ∷ 0 ∷ []) (two text (number 1))) cell
record_typed = (
  (_, _, _, _, refl, refl, refl, refl),
  (
    _,
    _,
    _,
    refl,
    (_, _, refl, refl, inr refl, (_, refl, inr refl, refl)),
    refl,
    (_, _, _, refl, (_, _, refl, refl, inr refl, (_, refl, inr refl, refl)), refl, refl),
  ),
)

-- { value = 1 }
field_missing : (t : Ty) → HasType context (Record (0 ∷ []) (one (number 1))) t → ⊥
field_missing t h =
    let numbers = h.1.3 in
    let field : h.1.0 ≡ 0 = grind (arith, numbers) in
    let row = same_Some _ _ (subst (λ f. slice_get declared.fields f ≡ Some h.1.4.0) field h.1.4.2) in
    let record_type = ap (λ r. r.of_type) row in
    let type = h.0.4 in
    let type_again = h.1.4.3 in
    let number : h.0.0 ≡ cell_type = grind (arith, record_type, type, type_again) in
    let type_row = same_Some _ _ (subst (λ n. slice_get declared.types n ≡ Some h.0.2) number h.0.5) in
    let fields = same_Some _ _ (ap (λ r. r.fields) type_row ∙ h.0.6) in
    let test = subst (λ all. IsTrue (differ (0 ∷ []) && same (0 ∷ []) all)) (sym fields) h.0.7 in
    grind (arith, test)

-- { value = 1; value = 2 }
field_twice : (t : Ty) → HasType context (Record (0 ∷ 0 ∷ []) (two (number 1) (number 2))) t → ⊥
field_twice t h = let e = h.0.7 in grind (arith, e)

-- r.value, r.value <- 2, and r.label <- "a", where r is a cell
abbrev with_cell : Context
with_cell = locally declared ((0, cell) ∷ [])

field_typed : HasType with_cell (Field 0 (Var 0)) int
field_typed = (_, (_, _, refl, refl, inr refl, (_, refl, inr refl, refl)), refl)

assignment_typed : HasType with_cell (SetField 0 (Var 0) (number 2)) unit
assignment_typed = (_, _, refl, (_, refl, refl), (_, _, refl, refl, inr refl, (_, refl, inr refl, refl)), refl, refl)

immutable_untyped : (t : Ty) → HasType with_cell (SetField 1 (Var 0) text) t → ⊥
immutable_untyped t h =
    let row = h.3.1 in
    let is_mutable = h.3.2 in
    grind (arith, row, is_mutable)

-- 1.value
field_of_integer_untyped : (t : Ty) → HasType context (Field 0 (number 1)) t → ⊥
field_of_integer_untyped t h =
    let row = h.1.2 in
    let type = h.1.3 in
    let given_type = h.2 in
    grind (arith, row, type, given_type)
