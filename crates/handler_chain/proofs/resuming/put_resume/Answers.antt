use Rattle.std.proofs.Common.{append_assoc, refl}
use Rattle.handler_chain.proofs.resuming.put_resume.Goals as goal

pub returns : goal.returns
returns c =
    record {
      more = simp (c.in_ok-put-6.ensures.more, c.in_ok-put-5.ensures.more, c.in_ok-put_load.ensures.more, c.in_ok-put-4.ensures.more, c.in_ok-put-3.ensures.more, c.in_ok-put_save.ensures.more, c.in_ok-put-2.ensures.more, c.in_ok-put.ensures.more, append_assoc) refl;
    }
