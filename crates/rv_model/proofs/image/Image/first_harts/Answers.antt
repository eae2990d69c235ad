use Rattle.std.proofs.Common.{◌++◌, ◌∷◌, [], sym, ap, ◌∙◌}
use Rattle.rv_model.specs.Start.{first_harts}
use Rattle.rv_model.proofs.Starting.{first_harts-more}
use Rattle.rv_model.proofs.image.Image.first_harts.Goals as goal

-- one more hart
pub loop-number-preserved : goal.loop-number-preserved
loop-number-preserved c =
    c.in_ok-push.ensures.items
    ∙ ap (λ l. l ++ c.first.result ∷ []) c.loop-number.invariant
    ∙ ap (λ h. first_harts 0 c.loop-number.number ++ h ∷ []) c.first.ensures
    ∙ sym (first_harts-more c.loop-number.number)
