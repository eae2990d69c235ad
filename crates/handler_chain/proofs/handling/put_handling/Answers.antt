use Rattle.std.proofs.Common.{append_assoc, refl}
use Rattle.handler_chain.proofs.handling.put_handling.Goals as goal

pub returns : goal.returns
returns c =
    record {
      more = simp (c.in_ok-put_end-2.ensures.more, c.in_ok-put_end.ensures.more, c.in_ok-put_handle.ensures.more, append_assoc) refl;
    }
