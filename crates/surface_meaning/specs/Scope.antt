-- What names can stand for, and what is visible at a place of a program. OCaml manual, "Names".
use Rattle.std.specs.Prelude.{ℕ, ℤ, List, [], ◌∷◌, Option, Some, None, if◌then◌else◌}
use Rattle.effect_meaning.specs.Terms.{Constructor, Operation}
use Rattle.effect_meaning.specs.Scoped.{same_text}

-- what a lower name stands for as an expression
pub data Value : Type 0 where
  -- a name of the program, by its number
  Named : (x : ℕ) → Value
  -- an operation, which takes so many arguments
  Builtin : (op : Operation) → (arguments : ℕ) → Value
  -- max_int and min_int
  Number : (n : ℤ) → Value
  -- one of the four functions that take a handler
  TakesHandler : Value

-- what a lower name stands for as a type
pub data TypeName : Type 0 where
  -- a type of the tables
  Row : (type : ℕ) → TypeName
  -- the name of a handler's (type a), by its type variable
  OfHandler : (v : ℕ) → TypeName

-- the modules. Deep and Shallow stand in Effect
pub data Module : Type 0 where
  EffectModule DeepModule ShallowModule DomainModule AtomicModule ListModule QueueModule FiberqModule : Module
  StringModule ArrayModule CharModule : Module

-- a text and what it stands for
pub record Entry (X : Type 0) : Type 0 where
  pub text : List ℕ
  pub meaning : X

-- what is visible: for each sort of names a list, in which the innermost and latest definition stands first. The definitions
-- of the prelude are reached through modules alone
pub record Scope : Type 0 where
  pub values : List (Entry Value)
  pub constructors : List (Entry Constructor)
  pub fields : List (Entry ℕ)
  pub types : List (Entry TypeName)
  pub modules : List (Entry Module)
  pub prelude_values : List (Entry Value)
  pub prelude_types : List (Entry TypeName)

-- a text that stands for something
abbrev pub entry : {X : Type 0} → List ℕ → X → Entry X
entry t x = record { text = t; meaning = x }

-- what a text stands for: the first one counts
abbrev pub meaning : {X : Type 0} → List (Entry X) → List ℕ → Option X
meaning [] t = None
meaning (e ∷ es) t = if same_text e.text t then Some e.meaning else meaning es t
