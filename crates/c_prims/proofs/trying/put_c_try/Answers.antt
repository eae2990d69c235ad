use Rattle.std.proofs.Common.{append_assoc, refl}
use Rattle.c_prims.proofs.trying.put_c_try.Goals as goal

pub returns : goal.returns
returns c =
    record {
      more = simp (c.in_ok-put_apply_closure.ensures.more, c.in_ok-put.ensures.more, append_assoc) refl;
    }
