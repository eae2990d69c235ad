use Rattle.std.proofs.Common.{append_assoc, refl}
use Rattle.domain_runtime.proofs.put_spawn_full.Goals as goal

pub returns : goal.returns
returns c =
    record {
      more = simp (c.in_ok-put_raise_text.ensures.more, c.in_ok-put.ensures.more, append_assoc) refl;
    }
