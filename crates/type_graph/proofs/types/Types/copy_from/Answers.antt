use Rattle.std.proofs.Common.{◌≡◌, ◌∙◌, ◌-◌, ◌+◌, sym, slice_get, None, Some, arith}
use Rattle.type_graph.proofs.Forwarding.{copied_all, copied_more}
use Rattle.type_graph.proofs.types.Types.copy_from.Goals as goal

pub returns-in_default : goal.returns-in_default
returns-in_default c =
    let is : slice_get c.loop-at.self.nodes c.loop-at.at ≡ None = cc (c.get.ensures, c.in_default.is) in
    sym (copied_all (33554432 - c.loop-at.at) c.args.base c.loop-at.at c.loop-at.self is) ∙ c.loop-at.invariant

pub loop-at-preserved : goal.loop-at-preserved
loop-at-preserved c =
    let is : slice_get c.loop-at.self.nodes c.loop-at.at ≡ Some c.in-Some.node = cc (c.get.ensures, c.in-Some.is) in
    rw c.in_ok-copy_arguments.ensures
    (copied_more (33554432 - c.loop-at.at) (33554432 - (c.loop-at.at + 1)) c.args.base c.loop-at.at c.in-Some.node c.loop-at.self (omega arith) is
    ∙ c.loop-at.invariant)
