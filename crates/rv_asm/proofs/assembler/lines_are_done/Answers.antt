use Rattle.rv_asm.proofs.Running.{lines_do}
use Rattle.rv_asm.proofs.assembler.lines_are_done.Goals as goal

pub returns : goal.returns
returns c = lines_do
