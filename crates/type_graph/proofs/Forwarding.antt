-- Arguments and types of a copy, one by one.
use Rattle.std.proofs.Common.{◌≡◌, ℕ, zero, suc, ◌+◌, slice_get, Some, None, refl}
use Rattle.type_graph.specs.declared.form.Form.{Form}
use Rattle.type_graph.specs.declared.types.Node.{Node}
use Rattle.type_graph.specs.Graph.{Graph}
use Rattle.type_graph.specs.Copied.{forwarded_argument, forwarded_arguments, arguments_copied, copied_from}

-- no argument is left
pub forwarded_none : (k base : ℕ) (f : Form) (place : ℕ) (g : Graph) → k ≡ 0 → forwarded_arguments k base f place g ≡ g
unfolding forwarded_arguments
forwarded_none k base f place g e = rw e refl

-- one more argument
pub forwarded_more : (k j base : ℕ) (f : Form) (place : ℕ) (g : Graph) → k ≡ suc j
    → forwarded_arguments j base f (place + 1) (forwarded_argument base f place g) ≡ forwarded_arguments k base f place g
unfolding forwarded_arguments
forwarded_more k j base f place g e = rw e refl

-- no type of the copy is left
pub copied_all : (k base at : ℕ) (g : Graph) → slice_get g.nodes at ≡ None → copied_from k base at g ≡ g
unfolding copied_from
copied_all zero base at g h = refl
copied_all (suc k) base at g h = rw h refl

-- one more type
pub copied_more : (k j base at : ℕ) (node : Node) (g : Graph) → k ≡ suc j → slice_get g.nodes at ≡ Some node
    → copied_from j base (at + 1) (arguments_copied base at node g) ≡ copied_from k base at g
unfolding copied_from
copied_more k j base at node g e h = rw (e, h) refl
