use Rattle.std.proofs.Common.{append_assoc, refl}
use Rattle.fiber_stealing.proofs.put_fiber_stealing.Goals as goal

pub returns : goal.returns
returns c =
    record {
      more = simp (c.in_ok-put_take_bad.ensures.more, c.in_ok-put.ensures.more, c.in_ok-put_take_from.ensures.more, c.in_ok-put_push_full.ensures.more, c.in_ok-put_push.ensures.more, append_assoc) refl;
    }
