use Rattle.std.proofs.Common.{◌-◌, ◌≡◌, ◌≤◌, length}
use Rattle.fx_base.specs.Told.{appended}
use Rattle.effects_top.proofs.output.write_all.Given as goal

abbrev pub invariant-loop-written : goal.invariant-loop-written
invariant-loop-written g l =
    let s = g.S.Sink in
    record {
      within : l.written ≤ length l.bytes;
      held : s.held l.sink ≡ appended (s.held l.fn.sink) l.written l.bytes;
      faults : s.faults l.fn.sink ≤ s.faults l.sink;
    }

abbrev pub decreases-loop-written : goal.decreases-loop-written
decreases-loop-written g l = length l.bytes - l.written
