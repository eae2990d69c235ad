-- What an arena keeps beside its nodes.
use Rattle.std.specs.Prelude.{◌≡◌, ℕ, ◌<◌, ◌^◌, List, length}
use Rattle.ml_syntax.specs.declared.node.Node.{Node}
use Rattle.ml_syntax.specs.Depth.{AreBelow, depths, greatest}

-- parts stand before their forms; the depth of each node, and the greatest one
pub record IsArena (ns : List Node) (ds : List ℕ) (most : ℕ) : Type 0 where
  pub below : AreBelow ns
  pub depths_are : ds ≡ depths ns
  pub most_is : most ≡ greatest 0 ds
  pub few : length ns < 2 ^ 32
