use Rattle.std.proofs.Common.{append_assoc, refl}
use Rattle.continuation_words.proofs.put_continuation_words.Goals as goal

pub returns : goal.returns
returns c =
    record {
      more = simp (c.in_ok-put_taken_before.ensures.more, c.in_ok-put.ensures.more, c.in_ok-put_make_cont.ensures.more, append_assoc) refl;
    }
