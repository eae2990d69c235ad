use Rattle.std.proofs.Common.{◌∙◌, ◌||◌, ap, sym}
use Rattle.std.specs.List.{list_any}
use Rattle.rv_model.specs.Machine.{Hart, hart_of}
use Rattle.std.specs.Prelude.{◌==◌, map}
use Rattle.serial_runner.proofs.Counts.{any_seen}
use Rattle.serial_runner.proofs.turns.is_over.Goals as goal

pub returns-else-is_ended : goal.returns-else-is_ended
returns-else-is_ended c =
    let budget = c.args.image.now.settings.budget in
    c.any_spent.ensures ∙ any_seen budget c.args.harts.now
    ∙ ap (λ b. b || list_any (λ (h : Hart). h.retired == budget) (map hart_of c.args.harts.now)) (sym c.if-is_ended.false ∙ c.is_ended.ensures)
