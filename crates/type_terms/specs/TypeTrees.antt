-- Types as finite trees. A type constructor is its number in the table of types; functions and tuples have one too.
use Rattle.std.specs.Prelude.{◌≡◌, ℕ, zero, suc, ◌+◌}
use Rattle.effect_meaning.specs.Builtins.{int_type, bool_type, char_type, string_type, unit_type, exn_type, list_type, option_type, ref_type, array_type, effect_type, deep_type, shallow_type, domain_type, atomic_type, function_type, tuple_type}
use Rattle.type_terms.specs.declared.base_type.BaseTy.{BaseTy}
use Rattle.type_terms.specs.declared.base_type.BaseTy.TheVariants as base

mutual
  pub data Ty : Type 0 where
    -- a type that the equations leave open
    TypeVariable : (v : ℕ) → Ty
    -- a type constructor with its arguments
    Constructed : (type : ℕ) → Tys → Ty

  pub data Tys : Type 0 where
    NoTys : Tys
    AndTy : Ty → Tys → Tys

-- a list of one type
abbrev pub one_ty : Ty → Tys
one_ty a = AndTy a NoTys

-- of two types
abbrev pub two_tys : Ty → Ty → Tys
two_tys a b = AndTy a (one_ty b)

-- of three types
abbrev pub three_tys : Ty → Ty → Ty → Tys
three_tys a b c = AndTy a (two_tys b c)

-- of four types
abbrev pub four_tys : Ty → Ty → Ty → Ty → Tys
four_tys a b c d = AndTy a (three_tys b c d)

-- the built-in types

-- int
abbrev pub int : Ty
int = Constructed int_type NoTys

-- bool
abbrev pub bool : Ty
bool = Constructed bool_type NoTys

-- char
abbrev pub char : Ty
char = Constructed char_type NoTys

-- string
abbrev pub string : Ty
string = Constructed string_type NoTys

-- unit
abbrev pub unit : Ty
unit = Constructed unit_type NoTys

-- exn, the type of exceptions
abbrev pub exn : Ty
exn = Constructed exn_type NoTys

-- 'a list
abbrev pub list : Ty → Ty
list a = Constructed list_type (one_ty a)

-- 'a option
abbrev pub option : Ty → Ty
option a = Constructed option_type (one_ty a)

-- 'a ref
abbrev pub ref : Ty → Ty
ref a = Constructed ref_type (one_ty a)

-- 'a array
abbrev pub array : Ty → Ty
array a = Constructed array_type (one_ty a)

-- 'a Effect.t: the type of an effect whose perform gives an a
abbrev pub effect : Ty → Ty
effect a = Constructed effect_type (one_ty a)

-- ('a, 'b) Effect.Deep.continuation: it takes an a, and its handler gives a b
abbrev pub deep : Ty → Ty → Ty
deep a b = Constructed deep_type (two_tys a b)

-- ('a, 'b) Effect.Shallow.continuation: it takes an a and gives a b, without a handler
abbrev pub shallow : Ty → Ty → Ty
shallow a b = Constructed shallow_type (two_tys a b)

-- 'a Domain.t
abbrev pub domain : Ty → Ty
domain a = Constructed domain_type (one_ty a)

-- 'a Atomic.t
abbrev pub atomic : Ty → Ty
atomic a = Constructed atomic_type (one_ty a)

-- a function from a to b
abbrev pub function : Ty → Ty → Ty
function a b = Constructed function_type (two_tys a b)

-- a tuple of parts of these types
abbrev pub tuple : Tys → Ty
tuple ts = Constructed tuple_type ts

-- how many types there are
abbrev pub count : Tys → ℕ
count NoTys = 0
count (AndTy t ts) = suc (count ts)

-- the type at a place, from 0; unit where there is none
abbrev pub type_at : Tys → ℕ → Ty
type_at NoTys i = unit
type_at (AndTy t ts) zero = t
type_at (AndTy t ts) (suc i) = type_at ts i

-- the number of nodes of a type
abbrev mutual
  pub size : Ty → ℕ
  size (TypeVariable v) = 1
  size (Constructed type ts) = suc (size_of_all ts)

  pub size_of_all : Tys → ℕ
  size_of_all NoTys = 0
  size_of_all (AndTy t ts) = size t + size_of_all ts

-- an instance of a type: each variable stands for a type
abbrev mutual
  pub instance_of : (ℕ → Ty) → Ty → Ty
  instance_of f (TypeVariable v) = f v
  instance_of f (Constructed type ts) = Constructed type (instances_of f ts)

  pub instances_of : (ℕ → Ty) → Tys → Tys
  instances_of f NoTys = NoTys
  instances_of f (AndTy t ts) = AndTy (instance_of f t) (instances_of f ts)

-- each of the five types whose values are compared by content
abbrev pub base_ty : BaseTy → Ty
base_ty base.Int = int
base_ty base.Bool = bool
base_ty base.Char = char
base_ty base.Unit = unit
base_ty base.Str = string

-- one of these five
abbrev pub IsBase : Ty → Type 0
IsBase t = (b : BaseTy) × (t ≡ base_ty b)
