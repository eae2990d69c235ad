use Rattle.std.proofs.Common.{append_assoc, refl}
use Rattle.handler_chain.proofs.waiting.put_waiting.Goals as goal

pub returns : goal.returns
returns c =
    record {
      more = simp (c.in_ok-put_fiber_start.ensures.more, c.in_ok-put.ensures.more, append_assoc) refl;
    }
