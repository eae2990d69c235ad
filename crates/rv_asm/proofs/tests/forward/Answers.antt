use Rattle.std.proofs.Common.{[], ◌∷◌, Vec, Global, arith}
use Rattle.rv_model.specs.declared.instr.Op.TheVariants.{Beq}
use Rattle.rv_model.specs.declared.line.Line.{Line}
use Rattle.rv_model.specs.declared.line.Line.TheVariants.{Label, Branch}
use Rattle.rv_asm.proofs.TestLines.{stop, lines_made, forward}
use Rattle.rv_asm.proofs.tests.forward.Goals as goal

pub returns : goal.returns
returns c = lines_made (λ (v : Vec Line Global). v.items) c.between.result (Branch Beq 1 2 0 ∷ []) c.args.count (Label 0 ∷ stop ∷ []) (omega arith) forward c.between.ensures
