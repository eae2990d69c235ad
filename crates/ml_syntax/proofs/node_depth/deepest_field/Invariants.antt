use Rattle.std.proofs.Common.{◌≡◌, drop}
use Rattle.ml_syntax.specs.Depth.{deepest, field_parts}
use Rattle.ml_syntax.proofs.node_depth.deepest_field.Given as goal

abbrev pub invariant-loop-field : goal.invariant-loop-field
invariant-loop-field l =
    deepest l.depths l.most (field_parts (drop l.field-index l.fields)) ≡ deepest l.depths l.found (field_parts l.fields)
