use Rattle.std.proofs.Common.{append_assoc, refl}
use Rattle.c_prims.proofs.strings.put_strings.Goals as goal

pub returns : goal.returns
returns c =
    record {
      more = simp (c.in_ok-put_chr_bad.ensures.more, c.in_ok-put_index_bad.ensures.more, c.in_ok-put_sub_bad.ensures.more, c.in_ok-put-4.ensures.more, c.in_ok-put-3.ensures.more, c.in_ok-put-2.ensures.more, c.in_ok-put.ensures.more, append_assoc) refl;
    }
