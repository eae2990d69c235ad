use Rattle.std.proofs.Common.{arith}
use Rattle.ml_lexer.proofs.Turns.{zero_ahead, step_opens, step_closes, step_bytes}
use Rattle.ml_lexer.proofs.comments.comment_len.Goals as goal

pub loop-depth-init : goal.loop-depth-init
loop-depth-init c = record { rest = zero_ahead _; deep = omega arith; within = omega arith }

pub loop-depth-preserved-in-Opens : goal.loop-depth-preserved-in-Opens
loop-depth-preserved-in-Opens c =
    let s = step_opens c.args.bytes.now c.loop-depth.at c.loop-depth.depth c.loop-depth-test.true c.loop-depth.invariant.rest (c.in-Opens.ensures _) in
    record { rest = s.0; deep = omega (arith, c.loop-depth.invariant.deep); within = s.1 }

pub loop-depth-preserved-in-Closes : goal.loop-depth-preserved-in-Closes
loop-depth-preserved-in-Closes c =
    let s = step_closes c.args.bytes.now c.loop-depth.at c.loop-depth.depth c.loop-depth-test.true c.loop-depth.invariant.rest (c.in-Closes.ensures _) in
    record { rest = s.0; deep = omega (arith, c.loop-depth.invariant.deep); within = s.1 }

pub loop-depth-preserved : goal.loop-depth-preserved
loop-depth-preserved c =
    let s = step_bytes c.args.bytes.now c.loop-depth.at c.loop-depth.depth c.in-Bytes.length c.loop-depth-test.true c.loop-depth.invariant.rest (c.in-Bytes.ensures _) in
    let positive = c.in-Bytes.ensures 0 in
    record { rest = s.0; deep = omega (arith, c.loop-depth.invariant.deep, positive.0); within = s.1 }
