use Rattle.std.proofs.Common.{arith, map}
use Rattle.ml_lexer.specs.Lexeme.{lexeme_at}
use Rattle.ml_lexer.proofs.Readings.{cut_preserved, cut_stops, made_lies, moved_preserved, part_length}
use Rattle.ml_lexer.proofs.cut.cut.Goals as goal

pub returns-in_default-clause-fault : goal.returns-in_default-clause-fault
returns-in_default-clause-fault c = cut_stops c.args.bytes.now c.loop-at.at c.loop-at.place (map (lexeme_at c.args.bytes.now) c.loop-at.tokens.items) c.loop-at-test.true c.loop-at.invariant.rest c.in_default.ensures.value

pub loop-at-preserved : goal.loop-at-preserved
loop-at-preserved c =
    let part = part_length c.loop-at.at c.in-Some.length c.args.bytes.now c.in-Some.ensures.bound.1 c.loop-at.invariant.within in
    record {
      rest = cut_preserved c.args.bytes.now c.loop-at.at c.in-Some.length c.loop-at.place c.advanced-place.result c.in-Some.sort c.loop-at.tokens.items c.add.new.tokens.items
          c.loop-at.invariant.rest c.in-Some.ensures.value c.in_ok-add.ensures c.advanced-place.ensures.value;
      moved = moved_preserved c.args.bytes.now c.loop-at.at c.in-Some.length c.loop-at.place c.advanced-place.result c.loop-at.invariant.moved c.advanced-place.ensures.value;
      lies = made_lies c.args.bytes.now c.loop-at.at c.in-Some.length c.loop-at.place c.in-Some.sort c.loop-at.tokens.items c.add.new.tokens.items part.0 c.loop-at.invariant.lies c.in_ok-add.ensures;
      within = part.0;
      line = omega (arith, c.loop-at.invariant.line, c.advanced-place.ensures.bound.0, part.1);
      column = omega (arith, c.loop-at.invariant.column, c.advanced-place.ensures.bound.1, part.1);
    }
