-- What is kept from one state to a later one.
use Rattle.std.proofs.Common.{◌≡◌, ℕ, ◌≤◌, ◌<◌, List, length, Option, None, arith, refl, ◌∙◌, Some}
use Rattle.type_terms.specs.TypeTrees.{Ty}
use Rattle.type_graph.specs.Graph.{Graph}
use Rattle.type_readings.specs.Readings.{Reads}
use Rattle.type_readings.specs.WellFormed.{AreNumbers}
use Rattle.type_readings.specs.OuterLaws.{IsFixed, OuterStays}
use Rattle.ml_infer.specs.declared.inference.Compared.{Compared}
use Rattle.ml_infer.specs.declared.inference.Inference.{Inference}
use Rattle.ml_infer.specs.declared.inference.KnownVariable.{KnownVariable}
use Rattle.ml_infer.specs.declared.inference.NameType.{NameType}
use Rattle.ml_infer.specs.declared.inference.NameType.TheVariants.{One, Generalised}
use Rattle.ml_infer.specs.declared.inference.Read.{Read}
use Rattle.ml_infer.specs.declared.tasks.Task.{Task}
use Rattle.ml_infer.specs.declared.tasks.Task.TheVariants as task
use Rattle.ml_infer.specs.declared.written.Variables.{Variables}
use Rattle.ml_infer.specs.declared.written.Variables.TheVariants as variables
use Rattle.ml_infer.specs.Known.{known}
use Rattle.inference_laws.specs.Whole.{HasRoom, NameIsThere, VariablesAreThere, TaskIsThere, ReadIsThere, TablesAreThere, NumbersAreThere, IsWhole}
use Rattle.inference_laws.proofs.Each.{each_so, if_known_so, known_so}

-- a name that isn't generalised is of a pattern with this number or an earlier one
abbrev pub IsOfPattern : (pattern : ℕ) → NameType → Type 0
IsOfPattern pattern (One t q) = q ≤ pattern
IsOfPattern pattern (Generalised t) = Unit {0}

-- no name is of a pattern that isn't at hand yet
abbrev pub NamesAreNumbered : Inference → Type 0
NamesAreNumbered s = (x v q : ℕ) → known s.names x ≡ Some (One v q) → q ≤ s.pattern

-- from the one state to the other the graph grows, it has the built-in types, and the state is whole where there is room for it
pub record Kept (s0 s : Inference) : Type 0 where
  pub types : length s0.types.nodes ≤ length s.types.nodes
  pub arguments : length s0.types.arguments ≤ length s.types.arguments
  pub first : 6 ≤ length s.types.nodes
  -- the walk went on before, if it does
  pub ended : s.end ≡ None → s0.end ≡ None
  -- then what reads the later types reads those before
  pub reads : HasRoom s.types → s.end ≡ None → (f : ℕ → Ty) → Reads f s.types → Reads f s0.types
  -- and what was outer or given stays so
  pub outer : HasRoom s.types → s.end ≡ None → OuterStays s0.types s.types
  -- the fields of types are counted as before
  pub counted : s.fields ≡ s0.fields
  pub numbered : NamesAreNumbered s0 → NamesAreNumbered s
  pub whole : HasRoom s.types → IsWhole s

-- something holds of a state, if there is room for it
abbrev pub Roomy : Inference → (ℕ → Type 0) → Type 0
Roomy s P = HasRoom s.types → P (length s.types.nodes)

-- a number is one of a type of a state
abbrev pub Has : Inference → ℕ → Type 0
Has s n = Roomy s (λ types. n < types)

-- so are some numbers
abbrev pub HasAll : Inference → List ℕ → Type 0
HasAll s ns = Roomy s (λ types. AreNumbers types ns)

pub kept_here : (s0 s : Inference) → Kept s0 s → Kept s s
kept_here s0 s k = record {
  types = omega arith;
  arguments = omega arith;
  first = k.first;
  ended = λ e. e;
  reads = λ room e f is. is;
  outer = λ room e n low is. is;
  counted = refl;
  numbered = λ h. h;
  whole = k.whole;
}

-- where there is room later, there was before
pub room_before : (s0 s : Inference) → Kept s0 s → HasRoom s.types → HasRoom s0.types
room_before s0 s k room =
    let a = k.types in
    let b = k.arguments in
    let c = room.types in
    let d = room.arguments in
    record { types = omega arith; arguments = omega arith }

pub kept_on : (s0 s1 s2 : Inference) → Kept s0 s1 → Kept s1 s2 → Kept s0 s2
kept_on s0 s1 s2 k l =
    let a = k.types in
    let b = l.types in
    let c = k.arguments in
    let d = l.arguments in
    record {
      types = omega arith;
      arguments = omega arith;
      first = l.first;
      ended = λ e. k.ended (l.ended e);
      reads = λ room e f is. k.reads (room_before s1 s2 l room) (l.ended e) f (l.reads room e f is);
      outer = λ room e n low is. l.outer room e n (omega arith) (k.outer (room_before s1 s2 l room) (l.ended e) n low is);
      counted = l.counted ∙ k.counted;
      numbered = λ h. l.numbered (k.numbered h);
      whole = l.whole;
    }

-- numbers stay those of types
pub numbers_up : (m n : ℕ) → m ≤ n → (ns : List ℕ) → AreNumbers m ns → AreNumbers n ns
numbers_up m n le ns h = each_so (λ x. x < m) (λ x. x < n) (λ x k. omega arith) ns h

pub name_up : (m n : ℕ) → m ≤ n → (k : NameType) → NameIsThere m k → NameIsThere n k
name_up m n le (One t q) h = omega arith
name_up m n le (Generalised t) h = omega arith

pub variables_up : (m n : ℕ) → m ≤ n → (v : Variables) → VariablesAreThere m v → VariablesAreThere n v
variables_up m n le variables.OfItem h = tt
variables_up m n le (variables.Parameters first count) h = omega arith

pub task_up : (m n : ℕ) → m ≤ n → (t : Task) → TaskIsThere m t → TaskIsThere n t
task_up m n le (task.Term a) h = tt
task_up m n le (task.TermIs a t) h = omega arith
task_up m n le (task.Pattern q) h = tt
task_up m n le (task.PatternIs q t) h = omega arith
task_up m n le (task.Give t) h = omega arith
task_up m n le (task.Is at t) h = omega arith
task_up m n le task.Forget h = tt
task_up m n le (task.Agree at) h = tt
task_up m n le (task.Annotated at w) h = tt
task_up m n le (task.Name x) h = tt
task_up m n le (task.Alias at x) h = tt
task_up m n le (task.Lambda t) h = omega arith
task_up m n le (task.Apply f a) h = tt
task_up m n le (task.FieldIs at f vars) h = variables_up m n le vars h
task_up m n le (task.FieldPatternIs at row f vars) h = variables_up m n le vars h
task_up m n le (task.IsMutable at f) h = tt
task_up m n le (task.Clauses a t) h = omega arith
task_up m n le (task.Clause q guard body u t) h = let a = h.0 in let b = h.1 in (omega arith, omega arith)
task_up m n le (task.Function f) h = tt
task_up m n le (task.EndFunction f t) h = omega arith
task_up m n le (task.TypeDeclared row) h = tt
task_up m n le (task.FieldDeclared f vars) h = variables_up m n le vars h
task_up m n le (task.VariantDeclared v vars) h = variables_up m n le vars h
task_up m n le (task.EffectDeclared row) h = tt
task_up m n le (task.VariableWas v k) h = if_known_so (λ x. x.found < m) (λ x. x.found < n) (λ x lt. omega arith) k h
task_up m n le (task.NoClause at k) h = let a = h.0 in let b = h.1 in (omega arith, omega arith)
task_up m n le (task.EffectClause k c) h = let a = h.0 in let b = h.1 in (omega arith, omega arith)
task_up m n le (task.Resumption k c t) h =
    let a = h.0.0 in
    let b = h.0.1 in
    let c = h.1 in
    ((omega arith, omega arith), omega arith)

pub tables_up :
    (g h : Graph) → length g.nodes ≤ length h.nodes → ((n : ℕ) → n < length g.nodes → IsFixed g n → IsFixed h n)
    → (read : List (Option Read)) (vars : List (Option KnownVariable)) (names : List (Option NameType))
    → TablesAreThere g read vars names → TablesAreThere h read vars names
tables_up g h le fixed read vars names k = record {
  read_there =
      known_so (ReadIsThere g) (ReadIsThere h)
      (λ r is. let low = is.0 in (omega arith, λ closed. fixed r.found low (is.1 closed))) read k.read_there;
  variables_there =
      known_so (λ v. v.found < length g.nodes) (λ v. v.found < length h.nodes) (λ v lt. omega arith) vars k.variables_there;
  names_there =
      known_so (NameIsThere (length g.nodes)) (NameIsThere (length h.nodes))
      (name_up (length g.nodes) (length h.nodes) le) names k.names_there;
}

pub all_up :
    (m n : ℕ) → m ≤ n → (bound given definitions : List ℕ) (comparisons : List Compared) (tasks : List Task)
    → NumbersAreThere m bound given definitions comparisons tasks → NumbersAreThere n bound given definitions comparisons tasks
all_up m n le bound given definitions comparisons tasks k = record {
  bound_there = numbers_up m n le bound k.bound_there;
  bound_few = let few = k.bound_few in omega arith;
  given_there = numbers_up m n le given k.given_there;
  definitions_there = numbers_up m n le definitions k.definitions_there;
  comparisons_there = each_so (λ c. c.found < m) (λ c. c.found < n) (λ c lt. omega arith) comparisons k.comparisons_there;
  tasks_there = each_so (TaskIsThere m) (TaskIsThere n) (task_up m n le) tasks k.tasks_there;
}

-- what held of a state holds of a later one
pub roomy_later :
    (P : ℕ → Type 0) → ((m n : ℕ) → m ≤ n → P m → P n) → (s0 s : Inference) → Kept s0 s → Roomy s0 P → Roomy s P
roomy_later P up s0 s k h room = up (length s0.types.nodes) (length s.types.nodes) k.types (h (room_before s0 s k room))

pub has_later : (s0 s : Inference) (n : ℕ) → Kept s0 s → Has s0 n → Has s n
has_later s0 s n k h = roomy_later (λ types. n < types) (λ a b le lt. omega arith) s0 s k h

pub all_later : (s0 s : Inference) (ns : List ℕ) → Kept s0 s → HasAll s0 ns → HasAll s ns
all_later s0 s ns k h = roomy_later (λ types. AreNumbers types ns) (λ a b le lt. numbers_up a b le ns lt) s0 s k h
