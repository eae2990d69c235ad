use Rattle.std.proofs.Common.{◌≡◌, ◌-◌}
use Rattle.ml_infer.specs.Walk.{finished}
use Rattle.ml_infer.proofs.inference.Inference.finish.Given as goal

-- what comes of the tasks that are left comes of all
abbrev pub invariant-loop-step : goal.invariant-loop-step
invariant-loop-step l =
    finished (18446744073709551615 - l._step) l.arena l.self ≡ finished 18446744073709551615 l.arena l.fn.self
