use Rattle.std.proofs.Common.{◌∙◌, ◌-◌, ◌+◌, sym, arith}
use Rattle.ml_infer.proofs.Fresh.{none_fresh, one_fresh}
use Rattle.ml_infer.proofs.inference.Inference.new_variables.Goals as goal

pub loop-made-preserved : goal.loop-made-preserved
loop-made-preserved c =
    rw c.in_ok-push.ensures.items
    (one_fresh (c.args.count - c.loop-made._made) (c.args.count - (c.loop-made._made + 1)) c.loop-made.found.items c.loop-made.self
    c.variable.new.self c.in_ok-variable.field-0 (omega arith) c.in_ok-variable.ensures
    ∙ c.loop-made.invariant)

pub returns : goal.returns
returns c =
    sym c.loop-made.invariant
    ∙ none_fresh (c.args.count - c.loop-made._made) c.loop-made.found.items c.loop-made.self (omega arith)
