-- What a report says of a run of an image in turns, for any image.
use Rattle.std.specs.Prelude.{◌≡◌, ◌≢◌, ℕ, ◌↔◌, []}
use Rattle.rv_model.specs.declared.image.Image.{Image}
use Rattle.rv_model.specs.declared.report.Report.{Report}
use Rattle.rv_model.specs.declared.report.RunEnd.TheVariants.{Broken}
use Rattle.rv_model.specs.Machine.{words_of}
use Rattle.rv_model.specs.Layout.{IsSound, log}
use Rattle.rv_model.specs.Run.{Runs, Reach}
use Rattle.rv_model.specs.Serial.{Serial}
use Rattle.serial_runner.specs.Ending.{ending, IsBroken}

-- the report is that of the image's run in turns of so many instructions; an image that keeps the machine's promise is never broken
pub record IsRunOf (image : Image) (turns : ℕ) (r : Report) : Type 0 where
  pub reach : Reach image r.words r.harts
  pub serial : r.end ≢ Broken → Serial image turns r.words r.harts
  pub sound : r.end ≢ Broken → IsSound image.settings.out (words_of r.words)
  pub printed : r.end ≢ Broken → r.printed ≡ log (words_of r.words)
  pub end : r.end ≢ Broken → r.end ≡ ending image.settings.budget (words_of r.words) r.harts
  pub broken : r.end ≡ Broken ↔ IsBroken image r.words r.harts
  pub unprinted : r.end ≡ Broken → r.printed ≡ []
  pub kept : Runs image → r.end ≢ Broken
