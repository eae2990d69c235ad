use Rattle.std.proofs.Common.{◌∙◌, length-set, rules}
use Rattle.rv_model.specs.Machine.{words_of}
use Rattle.serial_runner.proofs.Endings.{filled}
use Rattle.serial_runner.proofs.ending.fill.Goals as goal

pub loop-number-preserved : goal.loop-number-preserved
loop-number-preserved c = (
  length-set _ _ _ ∙ c.loop-number.invariant.0,
  filled (words_of c.args.words.now) c.args.at c.loop-number.number c.byte_at.result c.loop-number.bytes.items (search (rules, c.loop-number.invariant.0, c.requires.room, c.loop-number-test.true)) c.byte_at.ensures c.loop-number.invariant.1,
)
