use Rattle.std.proofs.Common.{◌≡◌, ◌∙◌, ◌-◌, ◌+◌, ◌∷◌, [], sym, arith}
use Rattle.ml_infer.specs.Written.{visited}
use Rattle.ml_infer.proofs.Visiting.{visited_done, visited_once}
use Rattle.ml_infer.proofs.inference.Inference.read_all.Goals as goal

pub returns-in_default : goal.returns-in_default
returns-in_default c =
    let is : c.loop-step.visits ≡ [] = c.pop.ensures.none c.in_default.is in
    let done : visited (18446744073709551615 - c.loop-step._step) c.args.arena.now c.args.variables c.args.place c.loop-step.visits c.loop-step.self ≡ c.loop-step.self =
    rw is (visited_done (18446744073709551615 - c.loop-step._step) c.args.arena.now c.args.variables c.args.place c.loop-step.self) in
    sym done ∙ c.loop-step.invariant

pub loop-step-preserved : goal.loop-step-preserved
loop-step-preserved c =
    let is : c.loop-step.visits ≡ c.in-Some.visit ∷ c.pop.new.self = c.in-Some.ensures.some in
    visited_once (18446744073709551615 - c.loop-step._step) (18446744073709551615 - (c.loop-step._step + 1)) c.args.arena.now c.args.variables c.args.place
    c.in-Some.visit c.pop.new.self c.visit.new.visits c.loop-step.self c.visit.new.self (omega arith) c.in_ok-visit.ensures
    ∙ (rw is at c.loop-step.invariant)
