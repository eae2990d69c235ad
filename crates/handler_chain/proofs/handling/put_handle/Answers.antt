use Rattle.std.proofs.Common.{append_assoc, refl}
use Rattle.handler_chain.proofs.handling.put_handle.Goals as goal

pub returns : goal.returns
returns c =
    record {
      more = simp (c.in_ok-put-2.ensures.more, c.in_ok-put_enter.ensures.more, c.in_ok-put_save.ensures.more, c.in_ok-put.ensures.more, append_assoc) refl;
    }
