use Rattle.std.proofs.Common.{◌≡◌, ◌-◌}
use Rattle.ml_infer.specs.Verdict.{halvings}
use Rattle.ml_infer.proofs.verdict.first_cyclic.Given as goal

-- the halvings that are left end where all end
abbrev pub invariant-loop-halving : goal.invariant-loop-halving
invariant-loop-halving l =
    halvings (64 - l._halving) l.arena l.span ≡ halvings 64 l.arena (record { finite = 0; cyclic = l.fn.equations })
