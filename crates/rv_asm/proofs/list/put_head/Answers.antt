use Rattle.std.proofs.Common.{rules, append_assoc}
use Rattle.std.proofs.lemmas.Result.{IfOk-equal}
use Rattle.rv_asm.specs.Listing.{head_line}
use Rattle.rv_asm.proofs.list.put_head.Goals as goal

pub returns : goal.returns
unfolding head_line
returns c = search (rules, IfOk-equal, append_assoc)
