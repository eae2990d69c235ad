use Rattle.std.proofs.Common.{◌≡◌, ◌∙◌, ◌-◌, ◌+◌, ◌∷◌, [], sym, arith}
use Rattle.type_graph.specs.Graph.{root}
use Rattle.type_graph.specs.Outer.{outward, root_outer, made_outer}
use Rattle.type_graph.proofs.Outward.{outer_done, outer_once}
use Rattle.type_graph.proofs.types.Types.make_each_outer.Goals as goal

pub returns-in_default : goal.returns-in_default
returns-in_default c =
    let is : c.loop-step.pending ≡ [] = c.pop.ensures.none c.in_default.is in
    let done : made_outer (18446744073709551615 - c.loop-step._step) c.loop-step.pending c.loop-step.self ≡ c.loop-step.self =
    rw is (outer_done (18446744073709551615 - c.loop-step._step) c.loop-step.self) in
    sym done ∙ c.loop-step.invariant

pub loop-step-preserved : goal.loop-step-preserved
loop-step-preserved c =
    let is : c.loop-step.pending ≡ c.in-Some.n ∷ c.pop.new.self = c.in-Some.ensures.some in
    let once : root_outer (root c.loop-step.self.nodes c.in-Some.n) c.pop.new.self c.loop-step.self ≡ outward c.make_root_outer.new.pending c.make_root_outer.new.self =
    cc (c.in_ok-make_root_outer.ensures, c.root.ensures) in
    outer_once (18446744073709551615 - c.loop-step._step) (18446744073709551615 - (c.loop-step._step + 1)) c.in-Some.n c.pop.new.self
    c.make_root_outer.new.pending c.loop-step.self c.make_root_outer.new.self (omega arith) once
    ∙ (rw is at c.loop-step.invariant)
