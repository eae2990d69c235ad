-- The links from a type.
use Rattle.std.proofs.Common.{◌≡◌, ℕ, zero, suc, List, Some, None, refl}
use Rattle.type_graph.specs.declared.types.Node.{Node}
use Rattle.type_graph.specs.Graph.{node_at, followed, link_of}

-- one more link
pub followed_link : (k links : ℕ) (nodes : List Node) (n m : ℕ) → k ≡ suc links → link_of (node_at nodes n).form ≡ Some m → followed links nodes m ≡ followed k nodes n
unfolding followed
followed_link k links nodes n m e h = rw (e, h) refl

-- the last one
pub followed_last : (k : ℕ) (nodes : List Node) (n : ℕ) → link_of (node_at nodes n).form ≡ None → followed k nodes n ≡ n
unfolding followed
followed_last zero nodes n h = refl
followed_last (suc k) nodes n h = rw h refl

-- no further one may be followed
pub followed_all : (k : ℕ) (nodes : List Node) (n : ℕ) → k ≡ 0 → followed k nodes n ≡ n
unfolding followed
followed_all k nodes n e = rw e refl
