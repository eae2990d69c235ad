use Rattle.std.proofs.Common.{append_assoc, refl}
use Rattle.c_prims.proofs.arithmetic.put_arithmetic.Goals as goal

pub returns : goal.returns
returns c =
    record {
      more = simp (c.in_ok-put.ensures.more, c.in_ok-put_raise_given-2.ensures.more, c.in_ok-put_raise_given.ensures.more, c.in_ok-put_zero_divisor.ensures.more, append_assoc) refl;
    }
