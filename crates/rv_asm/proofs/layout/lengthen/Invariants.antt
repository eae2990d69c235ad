use Rattle.rv_asm.proofs.Lengthening.{Lengthened}
use Rattle.rv_asm.proofs.layout.lengthen.Given as goal

-- the lines so far are done
abbrev pub invariant-loop-k : goal.invariant-loop-k
invariant-loop-k l = Lengthened l.lines l.initial.long l.long l.grew l.k
