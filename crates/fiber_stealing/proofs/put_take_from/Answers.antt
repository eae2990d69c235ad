use Rattle.std.proofs.Common.{append_assoc, refl}
use Rattle.fiber_stealing.proofs.put_take_from.Goals as goal

pub returns : goal.returns
returns c =
    record {
      more = simp (c.in_ok-put-2.ensures.more, c.in_ok-put_entry_address.ensures.more, c.in_ok-put.ensures.more, append_assoc) refl;
    }
