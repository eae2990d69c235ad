use Rattle.std.proofs.Common.{◌≡◌, length}
use Rattle.ml_parser.specs.Settled.{settled}
use Rattle.ml_parser.proofs.settling.settle.Given as goal

-- what ends from here on is what ends in all
abbrev pub invariant-loop-rule : goal.invariant-loop-rule
invariant-loop-rule l = settled l.role l.frames l.reductions ≡ settled l.role l.fn.frames l.fn.reductions

abbrev pub decreases-loop-rule : goal.decreases-loop-rule
decreases-loop-rule l = length l.frames
