use Rattle.std.proofs.Common.{[], ◌∷◌, Vec, Global, arith}
use Rattle.rv_model.specs.declared.line.Line.{Line}
use Rattle.rv_asm.proofs.TestLines.{nop, lines_made, one}
use Rattle.rv_asm.proofs.tests.nothing.Goals as goal

pub returns : goal.returns
returns c = lines_made (λ (v : Vec Line Global). v.items) c.between.result ([]) c.args.count (nop ∷ []) (omega arith) one c.between.ensures
