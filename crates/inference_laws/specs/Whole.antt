-- States of the walk in which each number is one of a type, and of whose types a copy can be told.
use Rattle.std.specs.Prelude.{◌≡◌, ℕ, ◌+◌, ◌<◌, ◌≤◌, List, length, Option, Some, None, true}
use Rattle.std.specs.List.{AllByRecursion}
use Rattle.type_graph.specs.Graph.{Graph}
use Rattle.type_readings.specs.WellFormed.{AreNumbers, IsWellFormed, IsGiving}
use Rattle.type_readings.specs.OuterLaws.{IsFixed}
use Rattle.ml_infer.specs.declared.inference.Compared.{Compared}
use Rattle.ml_infer.specs.declared.inference.End.{End}
use Rattle.ml_infer.specs.declared.inference.Inference.{Inference}
use Rattle.ml_infer.specs.declared.inference.KnownVariable.{KnownVariable}
use Rattle.ml_infer.specs.declared.inference.NameType.{NameType}
use Rattle.ml_infer.specs.declared.inference.NameType.TheVariants as name
use Rattle.ml_infer.specs.declared.inference.Read.{Read}
use Rattle.ml_infer.specs.declared.tasks.Handling.{Handling}
use Rattle.ml_infer.specs.declared.tasks.Task.{Task}
use Rattle.ml_infer.specs.declared.tasks.Task.TheVariants as task
use Rattle.ml_infer.specs.declared.written.Variables.{Variables}
use Rattle.ml_infer.specs.declared.written.Variables.TheVariants as variables

-- there is room for a graph
pub record HasRoom (g : Graph) : Type 0 where
  pub types : length g.nodes ≤ 33554432
  pub arguments : length g.arguments ≤ 67108864

-- it holds of what is known, if that is
abbrev pub IfKnown : {A : Type 0} → (A → Type 0) → Option A → Type 0
IfKnown P None = Unit {0}
IfKnown P (Some x) = P x

-- it holds of all that is known
abbrev pub EachKnown : {A : Type 0} → (A → Type 0) → List (Option A) → Type 0
EachKnown P xs = AllByRecursion (IfKnown P) xs

-- what is known of a name is a type, among so many
abbrev pub NameIsThere : (types : ℕ) → NameType → Type 0
NameIsThere types (name.One t q) = t < types
NameIsThere types (name.Generalised t) = t < types

-- the types of parameters are there
abbrev pub VariablesAreThere : (types : ℕ) → Variables → Type 0
VariablesAreThere types variables.OfItem = Unit {0}
VariablesAreThere types (variables.Parameters first count) = first + count ≤ types

-- the types of a handler are there
abbrev pub HandlingIsThere : (types : ℕ) → Handling → Type 0
HandlingIsThere types h = (h.handled < types) × (h.given < types)

-- the types that a task names are there
abbrev pub TaskIsThere : (types : ℕ) → Task → Type 0
TaskIsThere types (task.TermIs n t) = t < types
TaskIsThere types (task.PatternIs q t) = t < types
TaskIsThere types (task.Give t) = t < types
TaskIsThere types (task.Is at t) = t < types
TaskIsThere types (task.Lambda t) = t < types
TaskIsThere types (task.FieldIs at f vars) = VariablesAreThere types vars
TaskIsThere types (task.FieldPatternIs at row f vars) = VariablesAreThere types vars
TaskIsThere types (task.Clauses n t) = t < types
TaskIsThere types (task.Clause q guard body u t) = (u < types) × (t < types)
TaskIsThere types (task.EndFunction f t) = t < types
TaskIsThere types (task.FieldDeclared f vars) = VariablesAreThere types vars
TaskIsThere types (task.VariantDeclared v vars) = VariablesAreThere types vars
TaskIsThere types (task.VariableWas v k) = IfKnown (λ x. x.found < types) k
TaskIsThere types (task.NoClause at h) = HandlingIsThere types h
TaskIsThere types (task.EffectClause h c) = HandlingIsThere types h
TaskIsThere types (task.Resumption h c t) = HandlingIsThere types h × (t < types)
TaskIsThere types _ = Unit {0}

-- a written type was read as a type, which is fixed where no variable is in it
abbrev pub ReadIsThere : Graph → Read → Type 0
ReadIsThere g r = (r.found < length g.nodes) × (r.is_closed ≡ true → IsFixed g r.found)

-- the types of a walk are well formed, and a copy can be told of them at the end of the item, as long as the walk goes on
pub record TypesAreWhole (g : Graph) (end : Option End) : Type 0 where
  pub well : IsWellFormed g
  pub giving : end ≡ None → IsGiving g
  pub built_in : 6 ≤ length g.nodes

-- what is known of written types, type variables and names are types
pub record TablesAreThere (g : Graph) (read : List (Option Read)) (vars : List (Option KnownVariable))
    (names : List (Option NameType)) : Type 0 where
  pub read_there : EachKnown (ReadIsThere g) read
  pub variables_there : EachKnown (λ k. k.found < length g.nodes) vars
  pub names_there : EachKnown (NameIsThere (length g.nodes)) names

-- the numbers of lists of types are those of types, and so are those in comparisons and tasks
pub record NumbersAreThere (types : ℕ) (bound given definitions : List ℕ) (comparisons : List Compared)
    (tasks : List Task) : Type 0 where
  pub bound_there : AreNumbers types bound
  -- each of them was made for its name
  pub bound_few : length bound + 6 ≤ types
  pub given_there : AreNumbers types given
  pub definitions_there : AreNumbers types definitions
  pub comparisons_there : AllByRecursion (λ c. c.found < types) comparisons
  pub tasks_there : AllByRecursion (TaskIsThere types) tasks

-- a state in which all this is so
pub record IsWhole (s : Inference) : Type 0 where
  pub types : TypesAreWhole s.types s.end
  pub tables : TablesAreThere s.types s.read s.variables s.names
  pub numbers : NumbersAreThere (length s.types.nodes) s.bound s.given s.definitions s.comparisons s.tasks
