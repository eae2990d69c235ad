-- Types as trees that a graph can stand for.
use Rattle.std.specs.Prelude.{◌≡◌, ℕ, ◌<◌, min, length, List, [], ◌∷◌}
use Rattle.std.specs.List.{AllByRecursion}
use Rattle.type_terms.specs.TypeTrees.{Ty, TypeVariable, Constructed, Tys, NoTys, AndTy, size}
use Rattle.type_graph.specs.declared.form.Form.{Form}
use Rattle.type_graph.specs.declared.form.Form.TheVariants as form
use Rattle.type_graph.specs.declared.sizes.Size.TheVariants.{Known}
use Rattle.type_graph.specs.Graph.{Graph, node_at, root, arguments_of}
use Rattle.type_graph.specs.Sized.{Counting, size_at}

-- the trees of some numbers
abbrev pub trees_of : (ℕ → Ty) → List ℕ → Tys
trees_of f [] = NoTys
trees_of f (n ∷ ns) = AndTy (f n) (trees_of f ns)

-- a tree is as is known: any for a variable, that of the type that it is equal to, the type constructor with the trees of its arguments
abbrev pub IsOfForm : (ℕ → Ty) → (arguments : List ℕ) → Form → Ty → Type 0
IsOfForm f arguments form.Variable t = Unit {0}
IsOfForm f arguments (form.Link m) t = t ≡ f m
IsOfForm f arguments (form.Applied c first count) t = t ≡ Constructed c (trees_of f (arguments_of arguments (form.Applied c first count)))

-- a function reads a graph: it gives each number a tree that is as is known of that number
abbrev pub Reads : (ℕ → Ty) → Graph → Type 0
Reads f g = (n : ℕ) → IsOfForm f g.arguments (node_at g.nodes n).form (f n)

-- it leaves variables open: each is a type variable of its own
abbrev pub LeavesOpen : (ℕ → Ty) → Graph → Type 0
LeavesOpen f g = (n : ℕ) → (node_at g.nodes n).form ≡ form.Variable → f n ≡ TypeVariable n

-- it gives both numbers of each pair the same tree
abbrev pub AllEqual : (ℕ → Ty) → List (ℕ × ℕ) → Type 0
AllEqual f ps = AllByRecursion (λ p. f p.0 ≡ f p.1) ps

-- the sizes are those of its trees, as far as the least that is too large
abbrev pub HasSizes : (ℕ → Ty) → Graph → Counting → Type 0
HasSizes f g s = (n : ℕ) → n < length g.nodes → size_at s.sizes (root g.nodes n) ≡ Known (min (size (f n)) 4097)
