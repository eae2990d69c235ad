-- The types of constructors and fields, by their rows.
use Rattle.std.specs.Prelude.{◌≡◌, ℕ, Bool, false, ◌&&◌, ◌==◌, List, Option, Some, None, slice_get, IsTrue}
use Rattle.effect_meaning.specs.Terms.{Written, Constant, Integer, Character, Boolean, UnitConst, Literal, Constructor, Variant, Exception, Effect, TypeRow, VariantRow, FieldRow, ExceptionRow, EffectRow, Program}
use Rattle.effect_meaning.specs.Builtins.{unhandled}
use Rattle.effect_meaning.specs.Scoped.{differ, same}
use Rattle.type_terms.specs.TypeTrees.{Ty, Constructed, Tys, NoTys, int, bool, char, string, unit, exn, effect, type_at}
use Rattle.type_terms.specs.WrittenTypes.{HasArguments, Means}

-- the type of a constant
abbrev pub constant_type : Constant → Ty
constant_type (Integer n) = int
constant_type (Character n) = char
constant_type (Boolean b) = bool
constant_type UnitConst = unit
constant_type (Literal i) = string

-- an argument is there exactly where one was declared, and it has that type
abbrev pub ArgumentIs : List TypeRow → (ℕ → Ty) → Option Written → Option Ty → Type 0
ArgumentIs rows variables None None = Unit {0}
ArgumentIs rows variables None (Some a) = ⊥
ArgumentIs rows variables (Some w) None = ⊥
ArgumentIs rows variables (Some w) (Some a) = Means rows variables w a

-- exceptions and effects have no parameters
abbrev pub no_parameters : ℕ → Ty
no_parameters = type_at NoTys

-- a constructor, without argument or with one of this type, makes a value of type t
abbrev pub Constructs : Program → Constructor → Option Ty → Ty → Type 0
Constructs p (Variant n) argument t =
    (row : VariantRow) × (ts : Tys) × (slice_get p.variants n ≡ Some row) × (t ≡ Constructed row.of_type ts)
    × HasArguments p.types row.of_type ts × ArgumentIs p.types (type_at ts) row.argument argument
Constructs p (Exception n) argument t =
    (row : ExceptionRow) × (slice_get p.exceptions n ≡ Some row) × (t ≡ exn)
    × ArgumentIs p.types no_parameters row.argument argument
Constructs p (Effect n) argument t =
    (row : EffectRow) × (r : Ty) × (slice_get p.effects n ≡ Some row) × (t ≡ effect r)
    × Means p.types no_parameters row.result t × ArgumentIs p.types no_parameters row.argument argument

-- the constructor Effect.Unhandled, which stands only in patterns, with _ as its argument
abbrev pub is_unhandled : Constructor → Bool
is_unhandled (Exception n) = n == unhandled
is_unhandled _ = false

-- a field of a record of type t has type a
abbrev pub FieldHas : Program → ℕ → Ty → Ty → Type 0
FieldHas p field t a =
    (row : FieldRow) × (ts : Tys) × (slice_get p.fields field ≡ Some row) × (t ≡ Constructed row.of_type ts)
    × HasArguments p.types row.of_type ts × Means p.types (type_at ts) row.type a

-- a mutable field
abbrev pub IsMutable : Program → ℕ → Type 0
IsMutable p field = (row : FieldRow) × (slice_get p.fields field ≡ Some row) × IsTrue row.is_mutable

-- these are the fields of the record type t, each of them once
abbrev pub NamesEachField : Program → List ℕ → Ty → Type 0
NamesEachField p fields t =
    (type : ℕ) × (ts : Tys) × (row : TypeRow) × (all : List ℕ) × (t ≡ Constructed type ts) × (slice_get p.types type ≡ Some row)
    × (row.fields ≡ Some all) × IsTrue (differ fields && same fields all)
