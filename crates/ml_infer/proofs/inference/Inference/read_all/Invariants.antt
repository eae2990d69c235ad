use Rattle.std.proofs.Common.{◌≡◌, ◌-◌}
use Rattle.ml_infer.specs.Written.{visited}
use Rattle.ml_infer.proofs.inference.Inference.read_all.Given as goal

-- what comes of the visits that are left comes of all
abbrev pub invariant-loop-step : goal.invariant-loop-step
invariant-loop-step l =
    visited (18446744073709551615 - l._step) l.arena l.variables l.place l.visits l.self
    ≡ visited 18446744073709551615 l.arena l.variables l.place l.fn.visits l.fn.self
