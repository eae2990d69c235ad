use Rattle.std.proofs.Common.{append_assoc, refl}
use Rattle.c_prims.proofs.put_c_prims.Goals as goal

pub returns : goal.returns
returns c =
    record {
      more = simp (c.in_ok-put_texts.ensures.more, c.in_ok-put_trying.ensures.more, c.in_ok-put_iterating.ensures.more, c.in_ok-put_arrays.ensures.more, c.in_ok-put_comparing.ensures.more, c.in_ok-put_strings.ensures.more, c.in_ok-put_printing.ensures.more, c.in_ok-put_digits.ensures.more, c.in_ok-put_arithmetic.ensures.more, append_assoc) refl;
    }
