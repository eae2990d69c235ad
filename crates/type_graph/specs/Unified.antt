-- Types are made equal.
use Rattle.std.specs.Prelude.{ℕ, zero, suc, ◌+◌, nat_lt, min, max, Bool, true, false, ◌==◌, ◌&&◌, ◌||◌, not, List, [], ◌∷◌, ◌++◌, reverse, zip, if◌then◌else◌}
use Rattle.type_graph.specs.declared.form.Form.{Form}
use Rattle.type_graph.specs.declared.form.Form.TheVariants as form
use Rattle.type_graph.specs.declared.types.Node.{Node}
use Rattle.type_graph.specs.Graph.{Graph, fresh, node_at, root, is_variable, arguments_of, set_node}

-- two type constructors differ, or take a different number of arguments
abbrev pub clash : Form → Form → Bool
clash (form.Applied c first n) (form.Applied d second m) = not (c == d) || not (n == m)
clash _ _ = false

-- what an outer variable becomes is as far out as it was
abbrev pub merged_outer : Node → Node → Bool
merged_outer a b =
    if is_variable a.form && not (is_variable b.form) then b.is_outer
    else if not (is_variable a.form) && is_variable b.form then a.is_outer
    else a.is_outer || b.is_outer

-- the ranks of two roots that become one
abbrev pub merged_rank : ℕ → ℕ → ℕ
merged_rank a b = if a == b then min (a + 1) 4294967295 else max a b

-- the one node of two roots
abbrev pub merged : Node → Node → Node
merged a b = record {
  form = if is_variable a.form then b.form else a.form;
  is_outer = merged_outer a b;
  rank = merged_rank a.rank b.rank;
  copy = 0;
}

-- given to earlier items, if it is
abbrev pub given_if : Bool → ℕ → Graph → Graph
given_if is n g = if is then record g { given = n ∷ g.given } else g

-- the one root is linked to the other, which has this node from here on
abbrev pub linked : Bool → (kept gone : ℕ) → Node → Graph → Graph
linked is kept gone node g = set_node gone (fresh (form.Link kept) false) (set_node kept node (given_if is kept g))

-- an outer variable becomes what isn't outer
abbrev pub is_given : Node → Node → Bool
is_given a b = (a.is_outer || b.is_outer) && not (merged_outer a b)

-- two different roots become one: that of the lower rank is linked to the other
abbrev pub merge : (a b : ℕ) → Graph → Graph
merge a b g =
    let x = node_at g.nodes a in
    let y = node_at g.nodes b in
    if nat_lt x.rank y.rank then linked (is_given x y) b a (merged x y) g else linked (is_given x y) a b (merged x y) g

-- whether two types can be made equal, the pairs that are to be made equal then, the first first, and all types behind that
pub record Pairs : Type 0 where
  pub fits : Bool
  pub pending : List (ℕ × ℕ)
  pub types : Graph

abbrev pub pairs : Bool → List (ℕ × ℕ) → Graph → Pairs
pairs fits ps g = record { fits = fits; pending = ps; types = g }

-- the arguments of two forms in pairs, before others, the last pair first
abbrev pub argument_pairs : Graph → Form → Form → List (ℕ × ℕ) → List (ℕ × ℕ)
argument_pairs g left right ps = reverse (zip (arguments_of g.arguments left) (arguments_of g.arguments right)) ++ ps

-- two different roots clash, or they become one and the pairs of their arguments come first
abbrev pub roots_joined : (a b : ℕ) → List (ℕ × ℕ) → Graph → Pairs
roots_joined a b ps g =
    let left = (node_at g.nodes a).form in
    let right = (node_at g.nodes b).form in
    if clash left right then pairs false ps g else pairs true (argument_pairs g left right ps) (merge a b g)

-- two roots are made equal
abbrev pub roots_unified : (a b : ℕ) → List (ℕ × ℕ) → Graph → Pairs
roots_unified a b ps g = if a == b then pairs true ps g else roots_joined a b ps g

-- whether types can be made equal, and all types behind that
pub record Unified : Type 0 where
  pub fits : Bool
  pub types : Graph

abbrev pub unified_is : Bool → Graph → Unified
unified_is fits g = record { fits = fits; types = g }

-- behind one pair come the others, unless it clashed
abbrev pub onward : Pairs → (List (ℕ × ℕ) → Graph → Unified) → Unified
onward s others = if s.fits then others s.pending s.types else unified_is false s.types

-- pairs of types are made equal one after another, in so many steps at the most
unfoldable pub unified : (steps : ℕ) → List (ℕ × ℕ) → Graph → Unified
unified steps [] g = unified_is true g
unified zero (p ∷ ps) g = unified_is false g
unified (suc steps) (p ∷ ps) g = onward (roots_unified (root g.nodes p.0) (root g.nodes p.1) ps g) (unified steps)
