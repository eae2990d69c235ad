-- Types by numbers, as they become known.
use Rattle.std.specs.Prelude.{ℕ, zero, suc, ◌+◌, Bool, true, false, ◌==◌, List, [], ◌∷◌, ◌++◌, length, take, drop, slice_get, slice_set, slice_index_or, Option, Some, None, if◌then◌else◌, nat_le, ◌&&◌}
use Rattle.type_graph.specs.declared.form.Form.{Form}
use Rattle.type_graph.specs.declared.form.Form.TheVariants as form
use Rattle.type_graph.specs.declared.types.Node.{Node}

-- the types, the arguments of all type constructors, and what the item at hand gave to outer variables, the latest first
pub record Graph : Type 0 where
  pub nodes : List Node
  pub arguments : List ℕ
  pub given : List ℕ

-- a type of its own, that has no copy
abbrev pub fresh : Form → Bool → Node
fresh f outer = record { form = f; is_outer = outer; rank = 0; copy = 0 }

-- a type of which nothing is known
abbrev pub unknown : Node
unknown = fresh form.Variable false

-- the node of a number; nothing is known where there is none
abbrev pub node_at : List Node → ℕ → Node
node_at nodes n = slice_index_or nodes n unknown

-- it is this type constructor with so many arguments
abbrev pub is_of : Form → (row arguments : ℕ) → Bool
is_of (form.Applied c first count) row arguments = (c == row) && (count == arguments)
is_of _ row arguments = false

-- nothing is known
abbrev pub is_variable : Form → Bool
is_variable form.Variable = true
is_variable _ = false

-- the type that it is equal to
abbrev pub link_of : Form → Option ℕ
link_of (form.Link n) = Some n
link_of _ = None

-- behind a link, if there is one
abbrev pub behind : Option ℕ → ℕ → (ℕ → ℕ) → ℕ
behind None n onward = n
behind (Some m) n onward = onward m

-- the links from a type, so many at the most
unfoldable pub followed : (links : ℕ) → List Node → ℕ → ℕ
followed zero nodes n = n
followed (suc links) nodes n = behind (link_of (node_at nodes n).form) n (followed links nodes)

-- the number by which all types that are equal to it go: the last of the links from it. A row of n links wants 2 ^ n types
abbrev pub root : List Node → ℕ → ℕ
root nodes n = followed 32 nodes n

-- what is known of a type
abbrev pub form_of : List Node → ℕ → Form
form_of nodes n = (node_at nodes (root nodes n)).form

-- so many elements from a place on; none where they don't all stand there
abbrev pub part_of : {A : Type 0} → List A → ℕ → ℕ → List A
part_of xs first count = if nat_le (first + count) (length xs) then take count (drop first xs) else []

-- the arguments of a form
abbrev pub arguments_of : List ℕ → Form → List ℕ
arguments_of arguments (form.Applied c first count) = part_of arguments first count
arguments_of arguments _ = []

-- the argument of a form at a place
abbrev pub argument_of : List ℕ → Form → ℕ → Option ℕ
argument_of arguments f place = slice_get (arguments_of arguments f) place

-- with a further type
abbrev pub added : Node → Graph → Graph
added node g = record g { nodes = g.nodes ++ node ∷ [] }

-- with another node at a number
abbrev pub set_node : ℕ → Node → Graph → Graph
set_node n node g = record g { nodes = slice_set g.nodes n node }

-- with a new variable
abbrev pub variable_added : Graph → Graph
variable_added g = added unknown g

-- with a type constructor with its arguments, in outer types or not
abbrev pub applied : ℕ → List ℕ → Bool → Graph → Graph
applied c ns outer g =
    added (fresh (form.Applied c (length g.arguments) (length ns)) outer) (record g { arguments = g.arguments ++ ns })

-- there are no more types and arguments than there may be
abbrev pub has_room : Graph → Bool
has_room g = nat_le (length g.nodes) 33554432 && nat_le (length g.arguments) 67108864

-- a built-in type without arguments
abbrev pub built_in_node : ℕ → Node
built_in_node c = fresh (form.Applied c 0 0) true

-- the built-in types without arguments
abbrev pub built_in : Graph
built_in = record {
  nodes = built_in_node 0 ∷ built_in_node 1 ∷ built_in_node 2 ∷ built_in_node 3 ∷ built_in_node 4 ∷ built_in_node 5 ∷ [];
  arguments = [];
  given = [];
}
