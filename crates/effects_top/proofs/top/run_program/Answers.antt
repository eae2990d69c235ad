use Rattle.std.proofs.Common.{◌≡◌, ap, subst}
use Rattle.rv_model.specs.declared.image.Image.{Image}
use Rattle.rv_model.specs.declared.report.Report.{Report}
use Rattle.effects_top.specs.Words.{numbers_of}
use Rattle.effects_top.specs.Headline.{IsImageOf, Shows}
use Rattle.effects_top.proofs.Reporting.{shown}
use Rattle.effects_top.proofs.Refusing.{file_refused, file_ran}
use Rattle.effects_top.proofs.top.run_program.Goals as goal

pub returns-in-Err-clause-compiles : goal.returns-in-Err-clause-compiles
returns-in-Err-clause-compiles g c =
    file_refused _ c.in-Err.refusal _ _ _ _ _ _ _ _ _ _ _ c.refused.ensures c.in-Err.ensures.others c.in-Err.ensures.opened c.in-Err.ensures.file c.in-Err.ensures.limit

pub returns-in-Ok-run_image-clause-shows : goal.returns-in-Ok-run_image-clause-shows
returns-in-Ok-run_image-clause-shows g c = λ bytes told form i r image report.
    let stands : IsImageOf c.args.file.now bytes c.in-Ok.image = c.in-Ok.ensures.stands bytes told form in
    let same_image : c.in-Ok.image ≡ i = cc (c.ran.ensures.image, image) in
    let same_report : c.in-Ok-run_image.report ≡ r = cc (c.ran.ensures.report, report) in
    let shows : Shows c.args.file.now bytes c.in-Ok.image c.in-Ok-run_image.report =
    record { expression = stands.expression; form = stands.form; shows = λ at. shown _ c.in-Ok.image c.args.turns.count _ (stands.stands at) c.in-Ok-run_image.ensures.run } in
    subst (λ (x : Image). Shows c.args.file.now bytes x r) same_image
    (subst (λ (x : Report). Shows c.args.file.now bytes c.in-Ok.image x) same_report shows)

pub returns-in-Ok-run_image-clause-compiles : goal.returns-in-Ok-run_image-clause-compiles
returns-in-Ok-run_image-clause-compiles g c =
    file_ran _ c.in-Ok.image c.in-Ok-run_image.written _ _ _ _ _ _ _ c.ran.ensures.image c.ran.ensures.written c.in-Ok.ensures.opened c.in-Ok.ensures.read c.in-Ok.ensures.stands (ap numbers_of c.in-Ok.ensures.settings) c.in-Ok.ensures.limit
