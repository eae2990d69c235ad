use Rattle.std.proofs.Common.{◌≡◌, ◌++◌, take}
use Rattle.rv_asm.specs.Listing.{code_lines}
use Rattle.rv_asm.proofs.list.put_code.Given as goal

-- the lines of the instructions so far
abbrev pub invariant-loop-k : goal.invariant-loop-k
invariant-loop-k l = l.text.items ≡ l.initial.text.items ++ code_lines 0 (take l.k l.instrs)
