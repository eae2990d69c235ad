use Rattle.std.proofs.Common.{◌∙◌, ◌-◌, ◌+◌, sym, arith}
use Rattle.type_graph.proofs.Forwarding.{forwarded_none, forwarded_more}
use Rattle.type_graph.proofs.types.Types.forward_arguments.Goals as goal

pub loop-place-preserved : goal.loop-place-preserved
loop-place-preserved c =
    rw c.in_ok-forward_argument.ensures
    (forwarded_more (c.args.count - c.loop-place.place) (c.args.count - (c.loop-place.place + 1)) c.args.base c.args.form c.loop-place.place c.loop-place.self (omega arith)
    ∙ c.loop-place.invariant)

pub returns : goal.returns
returns c =
    sym (forwarded_none (c.args.count - c.loop-place.place) c.args.base c.args.form c.loop-place.place c.loop-place.self (omega arith))
    ∙ c.loop-place.invariant
