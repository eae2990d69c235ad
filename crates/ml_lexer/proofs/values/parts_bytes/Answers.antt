use Rattle.ml_lexer.proofs.StringParts.{parts_more, parts_within}
use Rattle.ml_lexer.proofs.values.parts_bytes.Goals as goal

pub loop-at-preserved : goal.loop-at-preserved
loop-at-preserved c = record {
  rest = parts_more c.args.parts.now c.loop-at.bytes.items c.add.new.bytes.items c.loop-at.at c.part_at-byte.result.1 c.part_at-byte.result.0 c.loop-at-test.true c.part_at-byte.ensures.positive c.part_at-byte.ensures.value c.loop-at.invariant.rest c.in_ok-add.ensures;
  within = parts_within c.args.parts.now c.loop-at.at c.part_at-byte.result.1 c.loop-at-test.true c.part_at-byte.ensures.bound;
}
