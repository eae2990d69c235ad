use Rattle.std.proofs.Common.{subst}
use Rattle.serial_runner.specs.Reported.{IsRunOf}
use Rattle.effects_top.proofs.top.run_made.Goals as goal

pub returns-in-Ok-run_image-clause-ran : goal.returns-in-Ok-run_image-clause-ran
returns-in-Ok-run_image-clause-ran g c = λ w written. (
  c.in-Ok.ensures.read,
  (
    c.in-Ok.image,
    c.in-Ok-run_image.report,
    subst (λ n. IsRunOf c.in-Ok.image n c.in-Ok-run_image.report) c.usual-2.ensures c.in-Ok-run_image.ensures.run,
    record {
      wrote = c.in-Ok-run_image.written;
      status = c.ran.ensures.status;
      image = c.ran.ensures.image;
      report = c.ran.ensures.report;
      written = c.ran.ensures.written;
      output = c.in-Ok-run_image.ensures.wrote;
      told = c.ran.ensures.told;
    },
  ),
)
