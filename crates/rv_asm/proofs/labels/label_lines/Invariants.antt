use Rattle.std.proofs.Common.{◌≡◌, ℕ, take}
use Rattle.std.specs.Ordering.{nat_cmp}
use Rattle.std.specs.BTreeMap.{get}
use Rattle.rv_asm.proofs.Looking.{found_in}
use Rattle.rv_asm.proofs.labels.label_lines.Given as goal

-- the labels of the lines so far
abbrev pub invariant-loop-k : goal.invariant-loop-k
invariant-loop-k l = (q : ℕ) → get nat_cmp l.numbers q ≡ found_in (take l.k l.lines) q
