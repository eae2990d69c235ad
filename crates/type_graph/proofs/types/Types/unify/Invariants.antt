use Rattle.std.proofs.Common.{◌≡◌, ◌-◌, ◌∷◌, []}
use Rattle.type_graph.specs.Unified.{unified}
use Rattle.type_graph.proofs.types.Types.unify.Given as goal

-- what comes of the pairs that are left comes of all
abbrev pub invariant-loop-step : goal.invariant-loop-step
invariant-loop-step l =
    unified (18446744073709551615 - l._step) l.pending l.self ≡ unified 18446744073709551615 ((l.fn.a, l.fn.b) ∷ []) l.fn.self
