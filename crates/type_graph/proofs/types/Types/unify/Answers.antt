use Rattle.std.proofs.Common.{◌≡◌, ◌∙◌, ◌-◌, ◌+◌, ◌∷◌, [], sym, true, false, arith}
use Rattle.type_graph.specs.Graph.{root}
use Rattle.type_graph.specs.Unified.{pairs, roots_unified, unified, unified_is}
use Rattle.type_graph.proofs.Pairs.{unified_done, unified_once, unified_clash}
use Rattle.type_graph.proofs.types.Types.unify.Goals as goal

pub returns-in_default : goal.returns-in_default
returns-in_default c =
    let is : c.loop-step.pending ≡ [] = c.pop.ensures.none c.in_default.is in
    let done : unified (18446744073709551615 - c.loop-step._step) c.loop-step.pending c.loop-step.self ≡ unified_is true c.loop-step.self =
    rw is (unified_done (18446744073709551615 - c.loop-step._step) c.loop-step.self) in
    sym c.loop-step.invariant ∙ done

pub returns-then-not-branch : goal.returns-then-not-branch
returns-then-not-branch c =
    let is : c.loop-step.pending ≡ (c.in-Some.a, c.in-Some.b) ∷ c.pop.new.self = cc (c.in-Some.ensures.some, c.in-Some.a-is, c.in-Some.b-is) in
    let once : roots_unified (root c.loop-step.self.nodes c.in-Some.a) (root c.loop-step.self.nodes c.in-Some.b) c.pop.new.self c.loop-step.self ≡ pairs false c.unify_roots.new.pending c.unify_roots.new.self =
    cc (c.in_ok-unify_roots.ensures, c.root-a.ensures, c.root-b.ensures, c.if-not-branch.true) in
    sym (unified_clash (18446744073709551615 - c.loop-step._step) (18446744073709551615 - (c.loop-step._step + 1)) c.in-Some.a c.in-Some.b
    c.pop.new.self c.unify_roots.new.pending c.loop-step.self c.unify_roots.new.self (omega arith) once
    ∙ (rw is at c.loop-step.invariant))

pub loop-step-preserved : goal.loop-step-preserved
loop-step-preserved c =
    let is : c.loop-step.pending ≡ (c.in-Some.a, c.in-Some.b) ∷ c.pop.new.self = cc (c.in-Some.ensures.some, c.in-Some.a-is, c.in-Some.b-is) in
    let once : roots_unified (root c.loop-step.self.nodes c.in-Some.a) (root c.loop-step.self.nodes c.in-Some.b) c.pop.new.self c.loop-step.self ≡ pairs true c.unify_roots.new.pending c.unify_roots.new.self =
    cc (c.in_ok-unify_roots.ensures, c.root-a.ensures, c.root-b.ensures, c.if-not-branch.false) in
    unified_once (18446744073709551615 - c.loop-step._step) (18446744073709551615 - (c.loop-step._step + 1)) c.in-Some.a c.in-Some.b
    c.pop.new.self c.unify_roots.new.pending c.loop-step.self c.unify_roots.new.self (omega arith) once
    ∙ (rw is at c.loop-step.invariant)
