use Rattle.std.proofs.Common.{append_assoc, refl}
use Rattle.handler_chain.proofs.put_handler_chain.Goals as goal

pub returns : goal.returns
returns c =
    record {
      more = simp (c.in_ok-put_waiting.ensures.more, c.in_ok-put_resuming.ensures.more, c.in_ok-put_searching.ensures.more, c.in_ok-put_handling.ensures.more, append_assoc) refl;
    }
