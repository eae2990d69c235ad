use Rattle.std.proofs.Common.{◌∙◌, sym, arith}
use Rattle.std.proofs.lemmas.Option.{slice_get-get_or}
use Rattle.rv_model.specs.declared.line.Line.TheVariants.{Label}
use Rattle.rv_asm.proofs.Lengthening.{lengthened_none, lengthened_far, lengthened_near, named_below, far_found, far_short}
use Rattle.rv_asm.proofs.layout.lengthen.Goals as goal
use Rattle.rv_asm.proofs.layout.lengthen.Goals.{then-is_far, else-is_far}

pub offset_bounds-starts-named : goal.offset_bounds-starts-named
offset_bounds-starts-named c = omega (arith, named_below c.args.lines.now c.args.named.now c.loop-k.k c.requires.named (omega arith))

pub bounds-starts-named : goal.bounds-starts-named
bounds-starts-named c = omega (arith, named_below c.args.lines.now c.args.named.now c.loop-k.k c.requires.named (omega arith))

pub loop-k-init : goal.loop-k-init
loop-k-init c = lengthened_none c.args.lines.now c.args.long.now

pub loop-k-preserved : goal.loop-k-preserved
loop-k-preserved c =
    let at = slice_get-get_or c.args.lines.now c.loop-k.k (Label 0) (omega arith) in
    let found = c.is_far.ensures ∙ far_found c.args.lines.now c.args.long.now c.loop-k.long c.args.starts.now c.args.named.now c.loop-k.k _ c.requires.starts c.requires.named at (c.loop-k.invariant.rest c.loop-k.k (omega arith)) in
    elim c.if-is_far.branch [
      | then-is_far w ↦
          rw w.long-is (rw w.grew-is (lengthened_far _ _ _ _ _ c.loop-k.invariant (omega arith) (far_short _ _ _ _ (sym c.is_far.ensures ∙ w.if-is_far.true)) (sym found ∙ w.if-is_far.true)))
      | else-is_far w ↦
          rw w.long-is (rw w.grew-is (lengthened_near _ _ _ _ _ c.loop-k.invariant (sym found ∙ w.if-is_far.false)))
    ]
