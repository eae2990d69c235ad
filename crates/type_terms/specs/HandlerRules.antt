-- The types of the parts and of the clauses of a handler whose body gives a b and that itself gives a t.
use Rattle.std.specs.Prelude.{◌≡◌, ℕ, ◌==◌, Bool, true, false, Option, Some, None, if◌then◌else◌, IsTrue}
use Rattle.effect_meaning.specs.Terms.{Written, Constructor, Effect, Pattern, Kind, Deep, ShallowContinue, ShallowDiscontinue, HandlerTypes}
use Rattle.type_terms.specs.TypeTrees.{Ty, Tys, four_tys, exn, effect, deep, shallow, function}
use Rattle.type_terms.specs.WrittenTypes.{IfWritten}
use Rattle.type_terms.specs.Contexts.{Names, Context, with_name, with_names}
use Rattle.type_terms.specs.Constructors.{Constructs}
use Rattle.type_terms.specs.PatternTypes.{ArgumentPatternHas}

-- the parts f x retc exnc of a deep handler, and k v retc exnc of a shallow one
abbrev pub HandlerHas : Kind → Tys → Ty → Ty → Type 0
HandlerHas Deep ts b t = (a : Ty) × (ts ≡ four_tys (function a b) a (function b t) (function exn t))
HandlerHas ShallowContinue ts b t = (a : Ty) × (ts ≡ four_tys (shallow a b) a (function b t) (function exn t))
HandlerHas ShallowDiscontinue ts b t = (a : Ty) × (ts ≡ four_tys (shallow a b) exn (function b t) (function exn t))

-- the continuation in a clause of an effect whose perform gives r
abbrev pub continuation : Kind → Ty → Ty → Ty → Ty
continuation Deep r b t = deep r t
continuation _ r b t = shallow r b

-- in such a clause the name of (type a) stands for r
abbrev pub result_variables : HandlerTypes → Ty → (ℕ → Ty) → ℕ → Ty
result_variables types r variables v = elim types.variable [ None ↦ variables v | Some a ↦ if v == a then r else variables v ]

-- the context of such a clause, before its names
abbrev pub for_result : HandlerTypes → Ty → Context → Context
for_result types r c = record c { variables = result_variables types r c.variables }

-- the type that the text gives to effc's parameter is that of such an effect
abbrev pub ParameterIs : Context → HandlerTypes → Ty → Type 0
ParameterIs c types r = IfWritten c.program.types (for_result types r c).variables types.effect (effect r)

-- the constructor of an effect
abbrev pub is_effect : Constructor → Bool
is_effect (Effect n) = true
is_effect _ = false

-- a clause of an effect whose perform gives r, before its body: the names of its pattern, and the type that the text may give to
-- its continuation
abbrev pub ClauseBegins :
    Context → Kind → HandlerTypes → Constructor → Option Pattern → Option Written → (r b t : Ty) → Names → Type 0
ClauseBegins c kind types con argument type r b t names =
    (a : Option Ty) × IsTrue (is_effect con) × Constructs c.program con a (effect r) × ParameterIs c types r
    × ArgumentPatternHas (for_result types r c) argument a names
    × IfWritten c.program.types (for_result types r c).variables type (continuation kind r b t)

-- the context of its body: the continuation has the name k
abbrev pub clause_context : Context → Kind → HandlerTypes → (k : ℕ) → (r b t : Ty) → Names → Context
clause_context c kind types k r b t names = with_name k (continuation kind r b t) (with_names names (for_result types r c))
