use Rattle.std.proofs.Common.{◌≡◌, drop}
use Rattle.ml_infer.specs.Verdict.{bases}
use Rattle.ml_infer.proofs.Bases.{behind}
use Rattle.ml_infer.proofs.verdict.bases.Given as goal

-- the types that are found and those that are left are all
abbrev pub invariant-loop-comparison : goal.invariant-loop-comparison
invariant-loop-comparison l =
    behind l.found.items (bases l.types (drop l.comparison-index l.comparisons)) ≡ bases l.types l.comparisons
