use Rattle.std.proofs.Common.{◌-◌, ◌≡◌, ℕ, ◌≤◌, List, Some, length}
use Rattle.fx_base.specs.Told.{Holds}
use Rattle.effects_top.specs.Source.{HasFront}
use Rattle.effects_top.proofs.source.fill.Given as goal

abbrev pub invariant-loop-taken : goal.invariant-loop-taken
invariant-loop-taken g l =
    let f = g.F.Files in
    record {
      opened : f.opened l.files ≡ Some l.name;
      count : f.taken l.files ≡ l.taken;
      within : l.taken ≤ length l.buf;
      told : f.told l.files ≡ f.told l.fn.files;
      faults : f.faults l.fn.files ≤ f.faults l.files;
      front : (file : List ℕ) → f.told l.fn.files l.name ≡ Holds file → HasFront file l.taken l.buf;
    }

abbrev pub decreases-loop-taken : goal.decreases-loop-taken
decreases-loop-taken g l = length l.buf - l.taken
