use Rattle.std.proofs.Common.{arith, refl}
use Rattle.effects_top.proofs.Spellings.{too_large}
use Rattle.effects_top.proofs.token.decimal.Goals as goal

pub returns-then-value-from : goal.returns-then-value-from
returns-then-value-from c =
    too_large c.args.greatest c.args.digits.now c.loop-digit.value _ c.loop-digit.digit-index c.loop-digit-test.true refl (omega (arith, c.if-value-from.true, c.from-in-loop-digit.ensures, c.from.ensures)) c.loop-digit.invariant.rest
