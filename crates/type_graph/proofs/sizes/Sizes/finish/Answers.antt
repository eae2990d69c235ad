use Rattle.std.proofs.Common.{◌≡◌, ◌∙◌, ◌-◌, ◌+◌, sym, ap, None, Some, arith}
use Rattle.type_graph.specs.Sized.{counting, stepped, if_fits}
use Rattle.type_graph.proofs.Counted.{finished_done, finished_once}
use Rattle.type_graph.proofs.sizes.Sizes.finish.Goals as goal

pub returns-in_default : goal.returns-in_default
returns-in_default c =
    sym c.loop-step.invariant
    ∙ finished_done (18446744073709551615 - c.loop-step._step) c.args.types.now c.loop-step.self c.self.inside.sizes.items c.self.inside.counts c.pop.new.self
    (sym c.self.view_is) (c.pop.ensures.none c.in_default.is) (c.pop.ensures.empty c.in_default.is)

pub returns-then-not-branch : goal.returns-then-not-branch
returns-then-not-branch c =
    let met : stepped c.args.types.now c.in-Some.count (counting c.self.inside.sizes.items c.pop.new.self) ≡ None = c.in_ok-step.ensures ∙ ap (λ b. if_fits b c.step.new.self) c.if-not-branch.true in
    sym c.loop-step.invariant
    ∙ sym (finished_once (18446744073709551615 - c.loop-step._step) (18446744073709551615 - (c.loop-step._step + 1)) c.args.types.now c.loop-step.self
    c.self.inside.sizes.items c.in-Some.count c.pop.new.self c.self.inside.counts None (omega arith) (sym c.self.view_is) c.in-Some.ensures.some met)

pub loop-step-preserved : goal.loop-step-preserved
loop-step-preserved c =
    let met : stepped c.args.types.now c.in-Some.count (counting c.self.inside.sizes.items c.pop.new.self) ≡ Some c.step.new.self = c.in_ok-step.ensures ∙ ap (λ b. if_fits b c.step.new.self) c.if-not-branch.false in
    finished_once (18446744073709551615 - c.loop-step._step) (18446744073709551615 - (c.loop-step._step + 1)) c.args.types.now c.loop-step.self
    c.self.inside.sizes.items c.in-Some.count c.pop.new.self c.self.inside.counts (Some c.step.new.self) (omega arith) (sym c.self.view_is) c.in-Some.ensures.some met
    ∙ c.loop-step.invariant
