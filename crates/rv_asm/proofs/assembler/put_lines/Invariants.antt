use Rattle.std.proofs.Common.{◌≡◌, take}
use Rattle.rv_asm.specs.Layout.{code_from, place_of}
use Rattle.rv_asm.specs.Found.{layout_of}
use Rattle.rv_asm.proofs.assembler.put_lines.Given as goal

-- the code of the lines so far
abbrev pub invariant-loop-k : goal.invariant-loop-k
invariant-loop-k l = l.code.items ≡ code_from (place_of (layout_of l.settled.long.items) l.lines) (layout_of l.settled.long.items) 0 0 (take l.k l.lines)
