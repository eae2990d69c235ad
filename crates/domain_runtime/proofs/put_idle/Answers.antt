use Rattle.std.proofs.Common.{append_assoc, refl}
use Rattle.domain_runtime.proofs.put_idle.Goals as goal

pub returns : goal.returns
returns c =
    record {
      more = simp (c.in_ok-put_apply_closure.ensures.more, c.in_ok-put-2.ensures.more, c.in_ok-put_root_fiber.ensures.more, c.in_ok-put.ensures.more, append_assoc) refl;
    }
