use Rattle.std.proofs.Common.{append_assoc, refl}
use Rattle.c_prims.proofs.trying.put_trying.Goals as goal

pub returns : goal.returns
returns c =
    record {
      more = simp (c.in_ok-put_some.ensures.more, c.in_ok-put-2.ensures.more, c.in_ok-put.ensures.more, c.in_ok-put_c_try.ensures.more, append_assoc) refl;
    }
