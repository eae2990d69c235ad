use Rattle.std.proofs.Common.{append_assoc, refl}
use Rattle.out_log.proofs.put_out_log.Goals as goal

pub returns : goal.returns
returns c =
    record {
      more = simp (c.in_ok-put_stop_run.ensures.more, c.in_ok-put-3.ensures.more, c.in_ok-put_print_bytes.ensures.more, c.in_ok-put-2.ensures.more, c.in_ok-put.ensures.more, append_assoc) refl;
    }
