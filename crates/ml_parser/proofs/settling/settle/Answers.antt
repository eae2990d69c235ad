use Rattle.std.proofs.Common.{◌≡◌, ◌∙◌, Some}
use Rattle.ml_moves.specs.Level.{made_before}
use Rattle.ml_parser.specs.Frames.{innermost}
use Rattle.ml_parser.specs.Changed.{state}
use Rattle.ml_parser.specs.Settled.{last_made}
use Rattle.ml_parser.proofs.EndsForms.{settled_once, fewer}
use Rattle.ml_parser.proofs.settling.settle.Goals as goal

pub loop-rule-preserved : goal.loop-rule-preserved
loop-rule-preserved c =
    let made : made_before c.args.role (innermost c.loop-rule.frames) (last_made c.loop-rule.reductions) ≡ Some c.in-Some.rule = cc (c.in-Some.is, c.made_before.ensures, c.innermost.ensures, c.last_made.ensures) in
    settled_once c.args.role c.loop-rule.frames c.loop-rule.reductions c.in-Some.rule (state c.change.new.frames c.change.new.reductions) made c.in_ok-change.ensures
    ∙ c.loop-rule.invariant

pub loop-rule-smaller : goal.loop-rule-smaller
loop-rule-smaller c =
    fewer c.loop-rule.frames c.loop-rule.reductions c.in-Some.rule (state c.change.new.frames c.change.new.reductions) c.in_ok-change.ensures
