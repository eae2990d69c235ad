use Rattle.effects_top.proofs.Emitted.{next_part, no_part}
use Rattle.effects_top.proofs.compile.emit_expression.Goals as goal

pub loop-part-preserved : goal.loop-part-preserved
loop-part-preserved c = next_part _ _ _ _ _ c.loop-part.part-index c.loop-part-test.true c.in_ok-emit_part.ensures c.loop-part.invariant

pub returns : goal.returns
returns c = no_part _ _ _ _ c.loop-part-test.false c.loop-part.invariant
