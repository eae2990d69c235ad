use Rattle.std.proofs.Common.{arith, length, ◌-◌, ◌≤◌, take, drop, ap, ◌∙◌}
use Rattle.std.proofs.lemmas.List.{length-take, length-drop}
use Rattle.fx_base.specs.Told.{appended}
use Rattle.effects_top.proofs.Writing.{appended_on}
use Rattle.effects_top.proofs.output.write_all.Goals as goal

pub loop-written-preserved : goal.loop-written-preserved
loop-written-preserved g c =
    let rest = take (length c.args.bytes.now - c.loop-written.written) (drop c.loop-written.written c.args.bytes.now) in
    let within : c.in-Ok.count ≤ length rest = c.in-Ok.ensures.within in
    record {
      within = omega (arith, simp (length-take, length-drop) at within);
      held = c.in-Ok.ensures.held ∙ ap (λ h. appended h c.in-Ok.count rest) c.loop-written.invariant.held ∙ appended_on (g.S.Sink.held c.args.sink.now) c.args.bytes.now c.loop-written.written c.in-Ok.count;
      faults = omega arith;
    }
