use Rattle.std.proofs.Common.{◌≡◌, ◌-◌}
use Rattle.type_graph.specs.Outer.{made_outer}
use Rattle.type_graph.proofs.types.Types.make_each_outer.Given as goal

-- what comes of the types that are left comes of all
abbrev pub invariant-loop-step : goal.invariant-loop-step
invariant-loop-step l =
    made_outer (18446744073709551615 - l._step) l.pending l.self ≡ made_outer 18446744073709551615 l.fn.pending l.fn.self
