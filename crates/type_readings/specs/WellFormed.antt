-- Graphs in which each number is one of a type, and in which links end.
use Rattle.std.specs.Prelude.{◌≡◌, ℕ, zero, suc, ◌+◌, ◌^◌, ◌<◌, ◌≤◌, ◌⊎◌, List, [], ◌∷◌, length, Some, None, Bool, true, false}
use Rattle.std.specs.List.{AllByRecursion, sum_by, count_by}
use Rattle.type_graph.specs.declared.form.Form.{Form}
use Rattle.type_graph.specs.declared.form.Form.TheVariants as form
use Rattle.type_graph.specs.declared.types.Node.{Node}
use Rattle.type_graph.specs.Graph.{Graph, node_at, root, form_of, link_of, arguments_of}

-- what a form names is there, among so many types and so many arguments
abbrev pub NamesWhatIsThere : (types arguments : ℕ) → Form → Type 0
NamesWhatIsThere types arguments form.Variable = Unit {0}
NamesWhatIsThere types arguments (form.Link m) = m < types
NamesWhatIsThere types arguments (form.Applied c first count) = first + count ≤ arguments

-- each is the number of one of so many types
abbrev pub AreNumbers : (types : ℕ) → List ℕ → Type 0
AreNumbers types ns = AllByRecursion (λ n. n < types) ns

-- both numbers of each pair are
abbrev pub ArePairs : (types : ℕ) → List (ℕ × ℕ) → Type 0
ArePairs types ps = AllByRecursion (λ p. (p.0 < types) × (p.1 < types)) ps

-- no link leads on from a type
abbrev pub IsRoot : List Node → ℕ → Type 0
IsRoot nodes n = link_of (node_at nodes n).form ≡ None

-- a row of so many links leads from one type to another one
abbrev pub Leads : (links : ℕ) → List Node → ℕ → ℕ → Type 0
Leads zero nodes n r = n ≡ r
Leads (suc links) nodes n r = (m : ℕ) × (link_of (node_at nodes n).form ≡ Some m) × Leads links nodes m r

-- the row of links from a type ends, and isn't longer than the rank of its end
pub record Ends (nodes : List Node) (n : ℕ) : Type 0 where
  pub links : ℕ
  pub end : ℕ
  pub leads : Leads links nodes n end
  pub is_root : IsRoot nodes end
  pub is_short : links ≤ (node_at nodes end).rank

-- as many types as are needed for a type of its rank at the end of links; a link counts for none
abbrev pub weight_of : Form → (rank : ℕ) → ℕ
weight_of (form.Link m) rank = 0
weight_of _ rank = 2 ^ rank

-- that of a node
abbrev pub weight : Node → ℕ
weight node = weight_of node.form node.rank

-- a graph is well formed: there is room for it, what is named is there, links end, and there are as many types as their ranks need
pub record IsWellFormed (g : Graph) : Type 0 where
  pub room : length g.nodes ≤ 33554432
  pub argument_room : length g.arguments ≤ 67108864
  pub names : (n : ℕ) → NamesWhatIsThere (length g.nodes) (length g.arguments) (node_at g.nodes n).form
  pub numbers : AreNumbers (length g.nodes) g.arguments
  pub ends : (n : ℕ) → Ends g.nodes n
  pub weighs : sum_by weight g.nodes ≤ length g.nodes

-- a type is outer, by its root
abbrev pub IsOuter : Graph → ℕ → Type 0
IsOuter g n = (node_at g.nodes (root g.nodes n)).is_outer ≡ true

-- a graph of which a copy can be told from what was there
pub record IsCopyable (g : Graph) : Type 0 where
  -- what a type has as its latest copy is a type that is there
  pub copies_before : (n : ℕ) → n < length g.nodes → (node_at g.nodes n).copy < length g.nodes
  -- the arguments of outer types are outer
  pub outer_arguments : (n : ℕ) → IsOuter g n → AllByRecursion (IsOuter g) (arguments_of g.arguments (form_of g.nodes n))

-- a type is outer, or is to be so as one of these is
abbrev pub IsOuterOr : Graph → List ℕ → ℕ → Type 0
IsOuterOr g [] n = IsOuter g n
IsOuterOr g (p ∷ ps) n = (root g.nodes p ≡ root g.nodes n) ⊎ IsOuterOr g ps n

-- a form is a link
abbrev pub is_link : Form → Bool
is_link (form.Link m) = true
is_link _ = false

-- how many types are linked to others
abbrev pub link_count : List Node → ℕ
link_count nodes = count_by (λ node. is_link node.form) nodes

-- a graph in which the arguments of outer types are outer, but for what the item at hand gave
pub record IsGiving (g : Graph) : Type 0 where
  -- what was given are types
  pub given_numbers : AreNumbers (length g.nodes) g.given
  -- what a type has as its latest copy is a type that is there
  pub copies_before : (n : ℕ) → n < length g.nodes → (node_at g.nodes n).copy < length g.nodes
  -- the arguments of outer types are outer or given
  pub arguments_or_given :
      (n : ℕ) → IsOuter g n → AllByRecursion (IsOuterOr g g.given) (arguments_of g.arguments (form_of g.nodes n))
  -- no more types are given than are linked
  pub given_few : length g.given ≤ link_count g.nodes
