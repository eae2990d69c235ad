use Rattle.std.proofs.Common.{append_assoc, refl}
use Rattle.handler_chain.proofs.resuming.put_resuming.Goals as goal

pub returns : goal.returns
returns c =
    record {
      more = simp (c.in_ok-put_resume-4.ensures.more, c.in_ok-put_resume-3.ensures.more, c.in_ok-put_resume-2.ensures.more, c.in_ok-put_resume.ensures.more, append_assoc) refl;
    }
