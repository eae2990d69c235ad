use Rattle.std.proofs.Common.{append_assoc, refl}
use Rattle.c_prims.proofs.iterating.put_fold_next.Goals as goal

pub returns : goal.returns
returns c =
    record {
      more = simp (c.in_ok-put_apply_closure.ensures.more, c.in_ok-put-3.ensures.more, c.in_ok-put-2.ensures.more, c.in_ok-put.ensures.more, append_assoc) refl;
    }
