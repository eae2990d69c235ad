use Rattle.std.proofs.Common.{◌≡◌, ◌∙◌, ap, arith}
use Rattle.std.specs.Prelude.{slice_index}
use Rattle.std.proofs.lemmas.List.{get_or_read}
use Rattle.std.proofs.lemmas.Option.{slice_get-get_or}
use Rattle.rv_model.specs.declared.line.Line.TheVariants.{Label}
use Rattle.rv_asm.specs.Found.{layout_of}
use Rattle.rv_asm.proofs.Emitting.{start_within, label_more, other_more}
use Rattle.rv_asm.proofs.assembler.label_places.Goals as goal
use Rattle.rv_asm.proofs.assembler.label_places.Goals.{in-Label+in_ok-push, in_default}

pub overflow_mul-index : goal.overflow_mul-index
overflow_mul-index c =
    let lines = c.args.lines.now in
    let long = layout_of c.args.settled.now.long.items in
    let starts = c.args.settled.now.starts.items in
    let from : c.index.result.now ≡ slice_index starts c.loop-k.k = get_or_read starts c.loop-k.k _ (omega (arith, c.requires.settled.room)) c.index.ensures 0 in
    omega (arith, from, c.requires.settled.are_starts c.loop-k.k (omega arith), start_within long lines c.loop-k.k (omega arith), c.requires.short)

pub loop-k-preserved : goal.loop-k-preserved
loop-k-preserved c =
    let lines = c.args.lines.now in
    let long = layout_of c.args.settled.now.long.items in
    let starts = c.args.settled.now.starts.items in
    let at = slice_get-get_or lines c.loop-k.k (Label 0) (omega arith) in
    elim c.match-line.branch [
      | in-Label+in_ok-push w ↦
          let from = get_or_read starts c.loop-k.k _ (omega (arith, c.requires.settled.room)) w.index.ensures 0 ∙ c.requires.settled.are_starts c.loop-k.k (omega arith) in
          ap (λ v. v.items) w.places-is ∙ w.in_ok-push.ensures.items ∙ label_more long lines c.loop-k.places.items c.loop-k.k w.index.result.now w.in-Label.label _ at w.in-Label.is c.loop-k.invariant from
      | in_default w ↦ ap (λ v. v.items) w.places-is ∙ other_more long lines c.loop-k.places.items c.loop-k.k _ at w.in_default.not-Label c.loop-k.invariant
    ]
