use Rattle.std.proofs.Common.{◌≡◌, ◌-◌}
use Rattle.type_graph.specs.Sized.{finished}
use Rattle.type_graph.proofs.sizes.Sizes.finish.Given as goal

-- what comes of the steps that are left comes of all
abbrev pub invariant-loop-step : goal.invariant-loop-step
invariant-loop-step l =
    finished (18446744073709551615 - l._step) l.types l.self.sizes l.self.counts
    ≡ finished 18446744073709551615 l.types l.fn.self.sizes l.fn.self.counts
