use Rattle.std.proofs.Common.{append_assoc, refl}
use Rattle.domain_runtime.proofs.put_domain_runtime.Goals as goal

pub returns : goal.returns
returns c =
    record {
      more = simp (c.in_ok-put-6.ensures.more, c.in_ok-put_spawn_full.ensures.more, c.in_ok-put_spawn_block.ensures.more, c.in_ok-put-5.ensures.more, c.in_ok-put-4.ensures.more, c.in_ok-put-3.ensures.more, c.in_ok-put-2.ensures.more, c.in_ok-put.ensures.more, c.in_ok-put_idle.ensures.more, append_assoc) refl;
    }
