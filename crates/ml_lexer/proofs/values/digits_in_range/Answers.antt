use Rattle.std.proofs.Common.{◌+◌, ◌*◌, ◌<◌, Some, None, ◌∙◌, ap, arith, Bool}
use Rattle.std.specs.Prelude.{if◌then◌else◌}
use Rattle.ml_lexer.specs.Values.{digits_value}
use Rattle.ml_lexer.proofs.Digits.{too_large, digit_read, score_read}
use Rattle.ml_lexer.proofs.values.digits_in_range.Goals as goal
use Rattle.ml_lexer.proofs.values.digits_in_range.Goals.{then-digit-ne95, else-digit-ne95}

pub returns-then-value-from : goal.returns-then-value-from
returns-then-value-from c =
    let big : 4611686018427387904 < c.if-digit-ne95.value = omega (arith, c.if-value-from.true, c.from-in-loop-digit.ensures) in
    let out = too_large c.args.base c.loop-digit.value c.if-digit-ne95.value 4611686018427387904 c.loop-digit.digit-index c.args.digits.now c.requires.0 c.loop-digit-test.true
    (elim c.if-digit-ne95.branch [
      | then-digit-ne95 w ↦ digit_read _ c.loop-digit.value c.args.base c.if-digit-ne95.value w.if-digit-ne95.true
          (w.value-is ∙ ap (λ n. c.loop-digit.value * n + w.from-then-digit-ne95.result) w.from.ensures ∙ ap (λ n. c.loop-digit.value * c.args.base + n) (w.from-then-digit-ne95.ensures ∙ w.digit_value.ensures.value))
      | else-digit-ne95 w ↦ score_read _ c.loop-digit.value c.args.base c.if-digit-ne95.value w.if-digit-ne95.false w.value-is
    ])
    big c.loop-digit.invariant.rest in
    ap (λ (b : Bool). if b then Some (digits_value c.args.base 0 c.args.digits.now) else None) out
