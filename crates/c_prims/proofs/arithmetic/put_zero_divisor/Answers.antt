use Rattle.std.proofs.Common.{append_assoc, refl}
use Rattle.c_prims.proofs.arithmetic.put_zero_divisor.Goals as goal

pub returns : goal.returns
returns c =
    record {
      more = simp (c.in_ok-put_raise.ensures.more, c.in_ok-put.ensures.more, append_assoc) refl;
    }
