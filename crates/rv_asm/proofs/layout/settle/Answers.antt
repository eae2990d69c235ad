use Rattle.std.proofs.Common.{◌*◌, ◌<◌, ◌^◌, ◌∙◌, length, arith}
use Rattle.rv_asm.specs.Found.{layout_of}
use Rattle.rv_asm.proofs.Settling.{put_back, starts_small, rounds_more, rounds_end}
use Rattle.rv_asm.proofs.layout.settle.Goals as goal

pub lengthen-requires-clause-few : goal.lengthen-requires-clause-few
lengthen-requires-clause-few c =
    let i = c.loop-starts.invariant in
    let small : 8 * length c.args.lines.now < 2 ^ 63 = omega (arith, i.room) in
    rw c.deref-in-loop-starts.ensures.value (starts_small c.args.lines.now (layout_of c.loop-starts.long.items) c.loop-starts.starts.items i.are_starts i.room small)

pub loop-starts-preserved : goal.loop-starts-preserved
loop-starts-preserved c =
    let i = c.loop-starts.invariant in
    let long = put_back c.loop-starts.long.len c.lengthen.new.long c.loop-starts.long.items (omega arith) in
    let starts = put_back c.loop-starts.starts.len c.place-in-loop-starts.new.starts c.loop-starts.starts.items (omega arith) in
    rw long (rw starts (rounds_more c.args.lines.now c.loop-starts.long.items c.lengthen.new.long c.deref_mut-in-loop-starts.result.now c.deref-in-loop-starts-2.result.now c.loop-starts.starts.items c.place-in-loop-starts.new.starts i
    c.deref_mut-in-loop-starts.ensures.value (c.deref-in-loop-starts-2.ensures.value ∙ long) (omega (arith, i.all)) (omega (arith, i.room)) c.place-in-loop-starts.ensures.first c.lengthen.ensures.grown c.place-in-loop-starts.ensures.starts))

pub returns : goal.returns
returns c =
    let i = c.loop-starts.invariant in
    let long = put_back c.loop-starts.long.len c.lengthen.new.long c.loop-starts.long.items (omega arith) in
    let same = long ∙ c.lengthen.ensures.same c.loop-starts-test.false ∙ c.deref_mut-in-loop-starts.ensures.value in
    rw same (rounds_end c.args.lines.now c.loop-starts.long.items c.deref_mut-in-loop-starts.result.now c.loop-starts.starts.items i c.deref_mut-in-loop-starts.ensures.value (c.lengthen.ensures.none c.loop-starts-test.false))
