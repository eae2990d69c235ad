use Rattle.std.proofs.Common.{[], ◌∷◌, Vec, Global, arith}
use Rattle.rv_model.specs.declared.instr.Op.TheVariants.{Beq, Bge}
use Rattle.rv_model.specs.declared.line.Line.{Line}
use Rattle.rv_model.specs.declared.line.Line.TheVariants.{Label, Branch}
use Rattle.rv_asm.proofs.TestLines.{stop, lines_made, both}
use Rattle.rv_asm.proofs.tests.there_and_back.Goals as goal

pub returns : goal.returns
returns c = lines_made (λ (v : Vec Line Global). v.items) c.between.result (Label 0 ∷ Branch Beq 1 2 1 ∷ []) c.args.count (Branch Bge 3 4 0 ∷ Label 1 ∷ stop ∷ []) (omega arith) both c.between.ensures
