use Rattle.std.proofs.Common.{◌≡◌, ℕ, ◌≤◌}
use Rattle.std.specs.Prelude.{slice_index}
use Rattle.rv_asm.specs.Layout.{start_of}
use Rattle.rv_asm.specs.Found.{layout_of}
use Rattle.rv_asm.proofs.layout.place.Given as goal

-- the lines so far have their starts
abbrev pub invariant-loop-k : goal.invariant-loop-k
invariant-loop-k l = (j : ℕ) → j ≤ l.k → slice_index l.starts j ≡ start_of (layout_of l.long) l.lines j
