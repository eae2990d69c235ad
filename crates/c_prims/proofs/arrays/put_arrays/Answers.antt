use Rattle.std.proofs.Common.{append_assoc, refl}
use Rattle.c_prims.proofs.arrays.put_arrays.Goals as goal

pub returns : goal.returns
returns c =
    record {
      more = simp (c.in_ok-put_make_bad.ensures.more, c.in_ok-put.ensures.more, append_assoc) refl;
    }
