use Rattle.std.proofs.Common.{◌≡◌, ◌∙◌, ◌-◌, ◌+◌, sym, Some, None, arith}
use Rattle.ml_infer.specs.Walk.{next, next_task}
use Rattle.ml_infer.proofs.Steps.{finished_none, finished_once}
use Rattle.ml_infer.proofs.inference.Inference.finish.Goals as goal

pub returns-in_default : goal.returns-in_default
returns-in_default c =
    let is : next_task c.loop-step.self ≡ next None c.next_task.new.self = cc (c.next_task.ensures, c.in_default.is) in
    sym (finished_none (18446744073709551615 - c.loop-step._step) (18446744073709551615 - (c.loop-step._step + 1)) c.args.arena.now
    c.loop-step.self c.next_task.new.self (omega arith) is)
    ∙ c.loop-step.invariant

pub loop-step-preserved : goal.loop-step-preserved
loop-step-preserved c =
    let is : next_task c.loop-step.self ≡ next (Some c.in-Some.task) c.next_task.new.self = cc (c.next_task.ensures, c.in-Some.is) in
    rw c.in_ok-act.ensures
    (finished_once (18446744073709551615 - c.loop-step._step) (18446744073709551615 - (c.loop-step._step + 1)) c.args.arena.now
    c.in-Some.task c.loop-step.self c.next_task.new.self (omega arith) is
    ∙ c.loop-step.invariant)
