use Rattle.std.proofs.Common.{Vec, Global}
use Rattle.rv_model.specs.declared.line.Line.{Line}
use Rattle.rv_asm.proofs.TestLines.{kinds_made}
use Rattle.rv_asm.proofs.tests.kinds.Goals as goal

pub returns : goal.returns
returns c = kinds_made (λ (v : Vec Line Global). v.items) c.from_slice.result c.args.value c.from_slice.ensures.items
