-- The rules of scope: what a name stands for, what a definition makes visible, and what `open` does.
-- OCaml manual, "Names"; that M.f of List and Queue is a definition of the prelude is own.
use Rattle.std.specs.Prelude.{ℕ, ◌==◌, List, [], ◌∷◌, ◌++◌, Option, Some, None, option_and_then, codes, if◌then◌else◌}
use Rattle.ml_syntax.specs.declared.node.Name.{Name}
use Rattle.ml_syntax.specs.declared.node.LongName.{LongName}
use Rattle.effect_meaning.specs.Terms.{Constructor}
use Rattle.surface_meaning.specs.Scope.{Value, TypeName, Module, ListModule, QueueModule, FiberqModule, Entry, Scope, entry, meaning}
use Rattle.surface_meaning.specs.BuiltinNames.{plain_values, builtin_values, plain_types, builtin_types_in, plain_constructors, constructors_in, plain_modules, modules_in}

-- what stands behind a front of a text, where the text has it
abbrev pub behind : List ℕ → List ℕ → Option (List ℕ)
behind [] t = Some t
behind (b ∷ bs) [] = None
behind (b ∷ bs) (c ∷ cs) = if b == c then behind bs cs else None

-- one more name, if it is there
abbrev pub and_entry : {X : Type 0} → Option (List ℕ) → X → List (Entry X) → List (Entry X)
and_entry None x es = es
and_entry (Some t) x es = entry t x ∷ es

-- the names that begin with a front, without it
abbrev pub without_front : {X : Type 0} → List ℕ → List (Entry X) → List (Entry X)
without_front f [] = []
without_front f (e ∷ es) = and_entry (behind f e.text) e.meaning (without_front f es)

-- one more name, if it means something
abbrev pub and_value : {X : Type 0} → List ℕ → Option X → List (Entry X) → List (Entry X)
and_value t None es = es
and_value t (Some x) es = entry t x ∷ es

-- the values of a module. List.f is the prelude's list_f, Queue.f is its queue_f, and Fiberq.steal is its fiberq_steal
abbrev pub values_in : Scope → Module → List (Entry Value)
values_in s ListModule = without_front (codes "list_") s.prelude_values
values_in s QueueModule = without_front (codes "queue_") s.prelude_values
values_in s FiberqModule = and_value (codes "steal") (meaning s.prelude_values (codes "fiberq_steal")) (builtin_values FiberqModule)
values_in s m = builtin_values m

-- the types of a module. Queue.t is the prelude's queue_t
abbrev pub types_in : Scope → Module → List (Entry TypeName)
types_in s QueueModule = without_front (codes "queue_") s.prelude_types
types_in s m = builtin_types_in m

-- the module behind further names of a path
abbrev pub within : Option Module → List (List ℕ) → Option Module
within m [] = m
within m (t ∷ ts) = within (option_and_then (λ o. meaning (modules_in o) t) m) ts

-- the module that a path stands for
abbrev pub module_at : Scope → List (List ℕ) → Option Module
module_at s [] = None
module_at s (t ∷ ts) = within (meaning s.modules t) ts

-- what a name behind a path stands for: without path it is among the visible ones
abbrev pub found : {X : Type 0} → Scope → List (Entry X) → (Module → List (Entry X)) → List (List ℕ) → List ℕ → Option X
found s visible inside [] t = meaning visible t
found s visible inside (p ∷ ps) t = option_and_then (λ m. meaning (inside m) t) (module_at s (p ∷ ps))

-- what a name stands for as an expression
abbrev pub value : Scope → LongName → Option Value
value s n = found s s.values (values_in s) n.path n.last.text

-- what an upper name stands for
abbrev pub constructor : Scope → LongName → Option Constructor
constructor s n = found s s.constructors constructors_in n.path n.last.text

-- what a name stands for as a type
abbrev pub type_named : Scope → LongName → Option TypeName
type_named s n = found s s.types (types_in s) n.path n.last.text

-- the row of a field
abbrev pub field : Scope → Name → Option ℕ
field s x = meaning s.fields x.text

-- the module that a whole name stands for
abbrev pub module_named : Scope → LongName → Option Module
module_named s n = module_at s (n.path ++ n.last.text ∷ [])

-- a value comes into scope
abbrev pub with_value : List ℕ → Value → Scope → Scope
with_value t v s = record s { values = entry t v ∷ s.values }

-- a constructor comes into scope
abbrev pub with_constructor : List ℕ → Constructor → Scope → Scope
with_constructor t c s = record s { constructors = entry t c ∷ s.constructors }

-- a field comes into scope
abbrev pub with_field : List ℕ → ℕ → Scope → Scope
with_field t f s = record s { fields = entry t f ∷ s.fields }

-- a type comes into scope
abbrev pub with_type : List ℕ → TypeName → Scope → Scope
with_type t n s = record s { types = entry t n ∷ s.types }

-- `open` adds the names of a module
abbrev pub opened : Module → Scope → Scope
opened m s = record s {
  values = values_in s m ++ s.values;
  constructors = constructors_in m ++ s.constructors;
  types = types_in s m ++ s.types;
  modules = modules_in m ++ s.modules;
}

-- the built-in names alone
abbrev pub first_scope : Scope
first_scope = record {
  values = plain_values;
  constructors = plain_constructors;
  fields = [];
  types = plain_types;
  modules = plain_modules;
  prelude_values = [];
  prelude_types = [];
}

-- behind the prelude its definitions are reached through modules alone
abbrev pub behind_prelude : Scope → Scope
behind_prelude s = record first_scope { prelude_values = s.values; prelude_types = s.types }
