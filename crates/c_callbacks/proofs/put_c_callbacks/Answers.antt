use Rattle.std.proofs.Common.{append_assoc, refl}
use Rattle.c_callbacks.proofs.put_c_callbacks.Goals as goal

pub returns : goal.returns
returns c =
    record {
      more = simp (c.in_ok-put_callback.ensures.more, c.in_ok-put_leave_c.ensures.more, c.in_ok-put.ensures.more, c.in_ok-put_enter_c.ensures.more, append_assoc) refl;
    }
