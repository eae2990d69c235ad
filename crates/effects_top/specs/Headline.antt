-- What the program promises of a file whose bytes are told: the image stands for the program that the bytes are, the
-- report is one of its runs, and what it says is true of a run of that program.
use Rattle.std.specs.Prelude.{◌≡◌, ◌⊎◌, ℕ, List, Option, None, Some, IfSome, option_and_then}
use Rattle.fx_base.specs.Faults.{Rose}
use Rattle.fx_base.specs.Told.{Told, Holds}
use Rattle.effect_meaning.specs.Terms.{Place, Program}
use Rattle.effect_meaning.specs.Run.{Run}
use Rattle.rv_model.specs.declared.image.Image.{Image}
use Rattle.rv_model.specs.declared.report.Report.{Report}
use Rattle.rv_model.specs.Run.{machine_of}
use Rattle.effects_top.specs.declared.outcome.Outcome.{Outcome}
use Rattle.effects_top.specs.Words.{Numbers, numbers_of, file_of, asked}
use Rattle.effects_top.specs.Outcome.{IsRefusedWith}
use Rattle.effects_top.specs.Expression.{Expression, program_of}
use Rattle.effects_top.specs.Form.{IsFormOf, IsOfForm}
use Rattle.effects_top.specs.Checked.{IsRead}
use Rattle.effects_top.specs.Standing.{slots_of, EndsAs, Stands}

-- the image stands for the program that the bytes of this file are, wherever its `let` stands
pub record IsImageOf (file bytes : List ℕ) (image : Image) : Type 0 where
  pub expression : Expression
  pub form : IsFormOf bytes expression
  pub stands : (at : Place) → Stands (program_of file at expression) image

-- the words name this file, of which these bytes are told
pub record IsTold (told : List ℕ → Told) (words : List (List ℕ)) (file bytes : List ℕ) : Type 0 where
  pub named : option_and_then file_of (asked words) ≡ Some file
  pub holds : told file ≡ Holds bytes

-- a run of the program printed the report's bytes, and its end is the report's; where the run was cut short, the row of that
-- early end is true of it
pub record IsReportOf (p : Program) (image : Image) (r : Report) : Type 0 where
  pub run : Run p (slots_of image)
  pub printed : r.printed ≡ run.last.output
  pub ends : EndsAs p image (machine_of r.harts r.words) run (Some r.end)

-- the report is that of a run of the program that the bytes of this file are, with its domains interleaved
pub record Shows (file bytes : List ℕ) (image : Image) (r : Report) : Type 0 where
  pub expression : Expression
  pub form : IsFormOf bytes expression
  pub shows : (at : Place) → IsReportOf (program_of file at expression) image r

-- what became of the file that a command names, with settings of these numbers: where its bytes are told, it passes `check` where
-- there is an image, which stands for the program that they are where they are of the form `let () = print_int A`; a file that can't be read and one that is too large have their
-- statuses
pub record Compiles (outcome : Outcome) (name : List ℕ) (numbers : Numbers) (told : Told) (opened_now : Option (List ℕ)) (taken faults faults' : ℕ) : Type 0 where
  pub opened : (opened_now ≡ None) ⊎ (opened_now ≡ Some name)
  pub read : (bytes : List ℕ) → told ≡ Holds bytes → IfSome outcome.image (λ (i : Image). IsRead bytes)
  pub stands : (bytes : List ℕ) → told ≡ Holds bytes → IsOfForm bytes → IfSome outcome.image (IsImageOf name bytes)
  pub settings : IfSome outcome.image (λ (i : Image). numbers_of i.settings ≡ numbers)
  pub usage : IsRefusedWith outcome 64 → ⊥
  pub file : IsRefusedWith outcome 68 → Rose faults faults'
  pub limited : opened_now ≡ Some name → taken ≡ 1048577 → IsRefusedWith outcome 67
