use Rattle.std.proofs.Common.{◌≡◌, drop, flat_map}
use Rattle.ml_syntax.specs.Depth.{deepest, clause_parts}
use Rattle.ml_syntax.proofs.node_depth.deepest_in_clauses.Given as goal

abbrev pub invariant-loop-clause : goal.invariant-loop-clause
invariant-loop-clause l =
    deepest l.depths l.most (flat_map clause_parts (drop l.clause-index l.clauses)) ≡ deepest l.depths l.found (flat_map clause_parts l.clauses)
