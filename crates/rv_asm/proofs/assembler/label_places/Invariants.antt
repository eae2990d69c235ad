use Rattle.std.proofs.Common.{◌≡◌, take}
use Rattle.rv_asm.specs.Layout.{places_from}
use Rattle.rv_asm.specs.Found.{layout_of}
use Rattle.rv_asm.proofs.assembler.label_places.Given as goal

-- the places in the lines so far
abbrev pub invariant-loop-k : goal.invariant-loop-k
invariant-loop-k l = l.places.items ≡ places_from (layout_of l.settled.long.items) 0 0 (take l.k l.lines)
