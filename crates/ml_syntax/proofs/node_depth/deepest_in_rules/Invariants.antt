use Rattle.std.proofs.Common.{◌≡◌, drop, flat_map}
use Rattle.ml_syntax.specs.Depth.{deepest, rule_parts}
use Rattle.ml_syntax.proofs.node_depth.deepest_in_rules.Given as goal

abbrev pub invariant-loop-rule : goal.invariant-loop-rule
invariant-loop-rule l =
    deepest l.depths l.most (flat_map rule_parts (drop l.rule-index l.rules)) ≡ deepest l.depths l.found (flat_map rule_parts l.rules)
