use Rattle.std.proofs.Common.{◌∙◌, refl, arith}
use Rattle.std.proofs.lemmas.Option.{slice_get-get_or}
use Rattle.rv_model.specs.declared.line.Line.TheVariants.{Label}
use Rattle.rv_asm.specs.Standing.{label_of}
use Rattle.rv_asm.proofs.Allowing.{stand_more, lines_allowed}
use Rattle.rv_asm.proofs.standing.are_lines.Goals as goal

pub loop-place-preserved : goal.loop-place-preserved
loop-place-preserved c =
    stand_more c.args.lines.now c.loop-place.place _ _ c.loop-place.invariant
    (slice_get-get_or c.args.lines.now c.loop-place.place (Label 0) (omega arith))
    (c.definition_of-defined.ensures ∙ c.in_ok-numbers.ensures _)
    (c.if-not-stands_at.ensures refl)

pub returns : goal.returns
returns c = λ _. lines_allowed c.args.lines.now (λ k line below at. c.loop-place.invariant k line (omega (arith, below)) at)
