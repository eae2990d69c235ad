use Rattle.std.proofs.Common.{◌≡◌, drop, flat_map}
use Rattle.ml_syntax.specs.Depth.{deepest, binding_parts}
use Rattle.ml_syntax.proofs.node_depth.deepest_in_bindings.Given as goal

abbrev pub invariant-loop-binding : goal.invariant-loop-binding
invariant-loop-binding l =
    deepest l.depths l.most (flat_map binding_parts (drop l.binding-index l.bindings)) ≡ deepest l.depths l.found (flat_map binding_parts l.bindings)
