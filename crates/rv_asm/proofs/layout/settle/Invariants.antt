use Rattle.rv_asm.specs.Found.{short_count}
use Rattle.rv_asm.proofs.Settling.{InRounds}
use Rattle.rv_asm.proofs.layout.settle.Given as goal

-- the layout so far, with its starts
abbrev pub invariant-loop-starts : goal.invariant-loop-starts
invariant-loop-starts l = InRounds l.lines l.long.items l.starts.items

-- branches that aren't long
abbrev pub decreases-loop-starts : goal.decreases-loop-starts
decreases-loop-starts l = short_count l.long.items
