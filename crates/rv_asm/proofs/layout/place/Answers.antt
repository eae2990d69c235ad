use Rattle.std.proofs.Common.{arith, ap, ◌+◌}
use Rattle.std.specs.Prelude.{slice_index}
use Rattle.std.proofs.lemmas.Option.{slice_get-get_or}
use Rattle.rv_model.specs.declared.line.Line.TheVariants.{Label}
use Rattle.rv_asm.specs.Found.{layout_of}
use Rattle.rv_asm.proofs.Starts.{start-few, starts_more}
use Rattle.rv_asm.proofs.layout.place.Goals as goal

pub overflow_add-starts : goal.overflow_add-starts
overflow_add-starts c =
    let e = c.loop-k.invariant c.loop-k.k (omega arith) in
    let few = start-few (layout_of c.args.long.now) c.args.lines.now c.loop-k.k in
    omega (arith, e, few, c.size.ensures.few)

pub loop-k-preserved : goal.loop-k-preserved
loop-k-preserved c =
    starts_more (layout_of c.args.long.now) c.args.lines.now c.loop-k.starts c.loop-k.k _ _
    (slice_get-get_or c.args.lines.now c.loop-k.k (Label 0) (omega arith)) (omega arith)
    (ap (λ n. slice_index c.loop-k.starts c.loop-k.k + n) c.size.ensures.is) c.loop-k.invariant
