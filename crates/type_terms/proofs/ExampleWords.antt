-- Small words for the examples: terms, contexts, and what two equal types have in common.
use Rattle.std.proofs.Common.{ℕ, pos, [], ◌∷◌, None, Bool, codes}
use Rattle.effect_meaning.specs.Terms.{Integer, Literal, UnitConst, Boolean, Place, HandlerTypes, Const, Term, Terms, NoTerms, AndTerm, Program}
use Rattle.effect_meaning.specs.Builtins.{builtin_exceptions, builtin_types, builtin_variants}
use Rattle.type_terms.specs.TypeTrees.{Ty, TypeVariable, Constructed, Tys, NoTys, AndTy, unit, type_at}
use Rattle.type_terms.specs.Contexts.{Names, Context}

abbrev pub at : Place
at = record { line = 1; column = 1 }

abbrev pub number : ℕ → Term
number n = Const (Integer (pos n))

abbrev pub truth : Bool → Term
truth b = Const (Boolean b)

abbrev pub nothing : Term
nothing = Const UnitConst

abbrev pub text : Term
text = Const (Literal 0)

abbrev pub one : Term → Terms
one a = AndTerm a NoTerms

abbrev pub two : Term → Term → Terms
two a b = AndTerm a (one b)

abbrev pub three : Term → Term → Term → Terms
three a b c = AndTerm a (two b c)

abbrev pub four : Term → Term → Term → Term → Terms
four a b c d = AndTerm a (three b c d)

-- a handler without written types
abbrev pub untyped : HandlerTypes
untyped = record { variable = None; effect = None }

-- a program without items
abbrev pub plain : Program
plain = record {
  file = codes "m.ml";
  literals = codes "a" ∷ [];
  types = builtin_types;
  variants = builtin_variants;
  fields = [];
  exceptions = builtin_exceptions;
  effects = [];
  extended = [];
  declarations = 0;
  items = [];
}

-- the context of a program with these local names, and without top-level names
abbrev pub locally : Program → Names → Context
locally p names = record { program = p; tops = λ x t. ⊥; variables = λ v. unit; names = names }

-- without names
abbrev pub closed : Context
closed = locally plain []

-- the arguments of a type
abbrev pub arguments_of : Ty → Tys
arguments_of (TypeVariable v) = NoTys
arguments_of (Constructed type ts) = ts

abbrev pub first_of : Tys → Ty
first_of ts = type_at ts 0

abbrev pub rest_of : Tys → Tys
rest_of NoTys = NoTys
rest_of (AndTy t ts) = ts

-- the first argument of a type
abbrev pub first_argument : Ty → Ty
first_argument t = first_of (arguments_of t)
