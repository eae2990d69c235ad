use Rattle.effects_top.specs.Headline.{IsImageOf}
use Rattle.effects_top.proofs.Reporting.{shown}
use Rattle.effects_top.proofs.program.run_file.Goals as goal

pub returns-clause-shows : goal.returns-clause-shows
returns-clause-shows g c = λ bytes told form.
    let stands : IsImageOf c.args.name.now bytes c.in_ok-image.image = c.in_ok-image.ensures.stands bytes told form in
    record { expression = stands.expression; form = stands.form; shows = λ at. shown _ c.in_ok-image.image c.args.turns.count _ (stands.stands at) c.in_ok-report.ensures.run }
