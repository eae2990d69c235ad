use Rattle.std.proofs.Common.{append_assoc, refl}
use Rattle.exception_frames.proofs.put_exception_frames.Goals as goal

pub returns : goal.returns
returns c =
    record {
      more = simp (c.in_ok-put_match_fail.ensures.more, c.in_ok-put_raise_new.ensures.more, c.in_ok-put-3.ensures.more, c.in_ok-put-2.ensures.more, c.in_ok-put.ensures.more, append_assoc) refl;
    }
