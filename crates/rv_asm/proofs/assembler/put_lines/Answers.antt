use Rattle.std.proofs.Common.{◌≡◌, ◌∙◌, false, get_or, arith}
use Rattle.std.specs.Prelude.{slice_index}
use Rattle.std.proofs.lemmas.List.{get_or_read}
use Rattle.std.proofs.lemmas.Option.{slice_get-get_or}
use Rattle.rv_model.specs.declared.line.Line.TheVariants.{Label}
use Rattle.rv_asm.specs.Found.{layout_of}
use Rattle.rv_asm.proofs.Lengthening.{named_below, place_found}
use Rattle.rv_asm.proofs.Emitting.{start_within, emit_more}
use Rattle.rv_asm.proofs.assembler.put_lines.Goals as goal

pub index-to-requires : goal.index-to-requires
index-to-requires c =
    let below = named_below c.args.lines.now c.args.named.now c.loop-k.k c.requires.named (omega arith) in
    omega (arith, below, c.requires.settled.room, c.args.settled.now.starts.ok.0)

pub put_line-requires : goal.put_line-requires
put_line-requires c =
    let lines = c.args.lines.now in
    let long = layout_of c.args.settled.now.long.items in
    let starts = c.args.settled.now.starts.items in
    let number = slice_index c.args.named.now c.loop-k.k in
    let below = named_below lines c.args.named.now c.loop-k.k c.requires.named (omega arith) in
    let from : c.index-at.result.now ≡ slice_index starts c.loop-k.k = get_or_read starts c.loop-k.k _ (omega (arith, c.requires.settled.room)) c.index-at.ensures 0 in
    let there : c.index-to.result.now ≡ slice_index starts number = get_or_read starts number _ (omega (arith, below, c.requires.settled.room)) c.index-to.ensures 0 in
    let begins = c.requires.settled.are_starts c.loop-k.k (omega arith) in
    let ends = c.requires.settled.are_starts number below in
    (omega (arith, from, begins, start_within long lines c.loop-k.k (omega arith), c.requires.short), omega (arith, there, ends, start_within long lines number below, c.requires.short))

pub loop-k-preserved : goal.loop-k-preserved
loop-k-preserved c =
    let lines = c.args.lines.now in
    let long = c.args.settled.now.long.items in
    let starts = c.args.settled.now.starts.items in
    let number = slice_index c.args.named.now c.loop-k.k in
    let line = get_or lines c.loop-k.k (Label 0) in
    let at = slice_get-get_or lines c.loop-k.k (Label 0) (omega arith) in
    let below = named_below lines c.args.named.now c.loop-k.k c.requires.named (omega arith) in
    let from = get_or_read starts c.loop-k.k _ (omega (arith, c.requires.settled.room)) c.index-at.ensures 0 ∙ c.requires.settled.are_starts c.loop-k.k (omega arith) in
    let there = get_or_read starts number _ (omega (arith, below, c.requires.settled.room)) c.index-to.ensures 0 ∙ place_found lines (layout_of long) starts c.args.named.now c.loop-k.k line c.requires.settled.are_starts c.requires.named at in
    let is = get_or_read long c.loop-k.k _ (omega (arith, c.requires.settled.all)) c.index.ensures false in
    c.in_ok-put_line.ensures ∙ emit_more (layout_of long) lines c.loop-k.code.items c.loop-k.k c.index-at.result.now c.index-to.result.now c.index.result.now line at c.loop-k.invariant from there is
