use Rattle.std.proofs.Common.{append_assoc, refl}
use Rattle.c_prims.proofs.strings.put_chr_bad.Goals as goal

pub returns : goal.returns
returns c =
    record {
      more = simp (c.in_ok-put_raise_text.ensures.more, c.in_ok-put.ensures.more, append_assoc) refl;
    }
