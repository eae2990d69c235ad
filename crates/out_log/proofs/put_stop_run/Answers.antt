use Rattle.std.proofs.Common.{append_assoc, refl}
use Rattle.out_log.proofs.put_stop_run.Goals as goal

pub returns : goal.returns
returns c =
    record {
      more = simp (c.in_ok-put-2.ensures.more, c.in_ok-put_take_lock.ensures.more, c.in_ok-put.ensures.more, append_assoc) refl;
    }
