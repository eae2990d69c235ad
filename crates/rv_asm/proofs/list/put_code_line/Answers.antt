use Rattle.std.proofs.Common.{rules, append_assoc}
use Rattle.std.proofs.lemmas.Result.{IfOk-equal}
use Rattle.rv_asm.specs.Listing.{code_line}
use Rattle.rv_asm.proofs.list.put_code_line.Goals as goal

pub returns : goal.returns
unfolding code_line
returns c = search (rules, IfOk-equal, append_assoc)
