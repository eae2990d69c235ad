use Rattle.std.proofs.Common.{◌∙◌, ◌-◌, ◌+◌, sym, ap, arith}
use Rattle.ml_infer.specs.declared.verdict.Span.{Span}
use Rattle.ml_infer.proofs.Halvings.{halved_none, halved_once}
use Rattle.ml_infer.proofs.verdict.first_cyclic.Goals as goal

pub loop-halving-preserved : goal.loop-halving-preserved
loop-halving-preserved c =
    rw c.in_ok-span.ensures
    (halved_once (64 - c.loop-halving._halving) (64 - (c.loop-halving._halving + 1)) c.args.arena.now c.loop-halving.span (omega arith)
    ∙ c.loop-halving.invariant)

pub returns : goal.returns
returns c =
    ap (λ (s : Span). s.cyclic)
    (sym (halved_none (64 - c.loop-halving._halving) c.args.arena.now c.loop-halving.span (omega arith)) ∙ c.loop-halving.invariant)
