use Rattle.std.proofs.Common.{◌≡◌, drop}
use Rattle.ml_syntax.specs.Depth.{deepest}
use Rattle.ml_syntax.proofs.node_depth.deepest_of.Given as goal

abbrev pub invariant-loop-part : goal.invariant-loop-part
invariant-loop-part l =
    deepest l.depths l.most ((drop l.part-index l.parts)) ≡ deepest l.depths l.found (l.parts)
