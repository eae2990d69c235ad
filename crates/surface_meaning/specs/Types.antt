-- What written types mean, and their breaches. OCaml manual, "Type expressions".
use Rattle.std.specs.Prelude.{ℕ, Bool, false, List, [], ◌∷◌, ◌++◌, map, flat_map, Option, Some, None, unwrap_or, if◌then◌else◌}
use Rattle.fx_base.specs.declared.refusal.Place.{Place}
use Rattle.ml_syntax.specs.declared.node.Node.{Node}
use Rattle.ml_syntax.specs.declared.node.Node.TheVariants as node
use Rattle.effect_meaning.specs.Terms.{Written, Variable, Any, Applied, Writtens, NoTypes, AndType}
use Rattle.effect_meaning.specs.Builtins.{int_type, function_type, tuple_type}
use Rattle.effect_meaning.specs.Scoped.{same_text}
use Rattle.surface_meaning.specs.Scope.{TypeName, Row, OfHandler, Scope, meaning}
use Rattle.surface_meaning.specs.Visible.{type_named}
use Rattle.surface_meaning.specs.Meanings.{Site, InItem, Declared, Meaning, part, written_at, writtens_of}

-- a type variable of this text
abbrev pub is_variable : List ℕ → Node → Bool
is_variable t (node.TypeVariable place u) = same_text u t
is_variable t _ = false

-- the number of the first node that is this type variable, of those before a node and the node itself
abbrev pub first_variable : List ℕ → List Meaning → ℕ → ℕ
first_variable t [] i = i
first_variable t (m ∷ ms) i = if is_variable t m.node then m.number else first_variable t ms i

-- a type variable: in a declaration a parameter, elsewhere one variable within its item, by its text
abbrev pub variable : List Meaning → ℕ → Site → List ℕ → Written
variable ms i InItem t = Variable (first_variable t ms i)
variable ms i (Declared ps) t = Variable (unwrap_or (meaning ps t) 0)

-- a type name with its arguments. The name of a (type a) takes none: with some it stands for int with these, which is no type
abbrev pub applied_name : Option TypeName → Writtens → Written
applied_name None ws = Any
applied_name (Some (Row t)) ws = Applied t ws
applied_name (Some (OfHandler v)) NoTypes = Variable v
applied_name (Some (OfHandler v)) (AndType w ws) = Applied int_type (AndType w ws)

-- what parts mean as types
abbrev pub writtens_at : List Meaning → List ℕ → Site → Scope → Writtens
writtens_at ms is w s = writtens_of (map (λ i. written_at ms i w s) is)

-- the type that a node is
abbrev pub written_of : List Meaning → ℕ → Node → Site → Scope → Written
written_of ms i (node.TypeVariable place t) w s = variable ms i w t
written_of ms i (node.TypeAny place) w s = Any
written_of ms i (node.TypeName n) w s = applied_name (type_named s n) NoTypes
written_of ms i (node.TypeApply ts n) w s = applied_name (type_named s n) (writtens_at ms ts w s)
written_of ms i (node.TypeBracket place t) w s = written_at ms t w s
written_of ms i (node.TypeTuple place ts) w s = Applied tuple_type (writtens_at ms ts w s)
written_of ms i (node.TypeArrow place a b) w s = Applied function_type (writtens_at ms (a ∷ b ∷ []) w s)
written_of ms i _ w s = Any

-- a breach where a name stands for nothing
abbrev pub missing : {X : Type 0} → Option X → Place → List Place
missing None p = p ∷ []
missing (Some x) p = []

-- in a declaration a type variable is a parameter
abbrev pub variable_breaches : Site → List ℕ → Place → List Place
variable_breaches InItem t p = []
variable_breaches (Declared ps) t p = missing (meaning ps t) p

-- a blank stands in no declaration
abbrev pub blank_breaches : Site → Place → List Place
blank_breaches InItem p = []
blank_breaches (Declared ps) p = p ∷ []

-- the breaches in types
abbrev pub type_breaches_at : List Meaning → List ℕ → Site → Scope → List Place
type_breaches_at ms is w s = flat_map (λ i. (part ms i).type_breaches w s) is

-- the breaches in a type
abbrev pub type_breaches_of : List Meaning → Node → Site → Scope → List Place
type_breaches_of ms (node.TypeVariable place t) w s = variable_breaches w t place
type_breaches_of ms (node.TypeAny place) w s = blank_breaches w place
type_breaches_of ms (node.TypeName n) w s = missing (type_named s n) n.place
type_breaches_of ms (node.TypeApply ts n) w s = missing (type_named s n) n.place ++ type_breaches_at ms ts w s
type_breaches_of ms (node.TypeBracket place t) w s = type_breaches_at ms (t ∷ []) w s
type_breaches_of ms (node.TypeTuple place ts) w s = type_breaches_at ms ts w s
type_breaches_of ms (node.TypeArrow place a b) w s = type_breaches_at ms (a ∷ b ∷ []) w s
type_breaches_of ms _ w s = []
