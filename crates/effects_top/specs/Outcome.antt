-- What a call of the program answers.
use Rattle.std.specs.Prelude.{◌≡◌, ℕ, List, [], Option, Some, None, codes}
use Rattle.fx_base.specs.declared.refusal.Refusal.{Refusal}
use Rattle.fx_base.specs.declared.settings.Written.{Written}
use Rattle.fx_base.specs.declared.settings.Written.TheVariants.{Whole, Failed}
use Rattle.rv_model.specs.declared.image.Image.{Image}
use Rattle.rv_model.specs.declared.report.Report.{Report}
use Rattle.prelude_ml.specs.MadeText.{made_text}
use Rattle.rv_asm.specs.Listing.{listed}
use Rattle.effects_top.specs.declared.outcome.Outcome.{Outcome}
use Rattle.effects_top.specs.Answers.{refusal_status, refusal_line, end_status, end_line, output_line}
use Rattle.effects_top.specs.Output.{Wrote}

-- something was refused with this status
pub record IsRefusedWith (outcome : Outcome) (number : ℕ) : Type 0 where
  pub status : outcome.status.0 ≡ number
  pub written : outcome.written ≡ None

-- this was refused: there is no report, nothing was written to the output, and its line to standard error
pub record Refused (outcome : Outcome) (refusal : Refusal) (i : Option Image) (err err' : Option (List ℕ)) (faults faults' : ℕ) : Type 0 where
  pub status : outcome.status.0 ≡ refusal_status refusal
  pub image : outcome.image ≡ i
  pub report : outcome.report ≡ None
  pub written : outcome.written ≡ None
  pub told : (w : Written) × Wrote err err' faults faults' (refusal_line refusal) w

-- this was refused for a reason
pub record RefusedFor (IsReason : Refusal → Type 0) (outcome : Outcome) (err err' : Option (List ℕ)) (faults faults' : ℕ) : Type 0 where
  pub refusal : Refusal
  pub image : Option Image
  pub refused : Refused outcome refusal image err err' faults faults'
  pub reason : IsReason refusal

-- the status of an answer, which is 69 where the output isn't whole
abbrev pub answer_status : ℕ → Written → ℕ
answer_status status Whole = status
answer_status status Failed = 69

-- the line of an answer on standard error
abbrev pub answer_line : List ℕ → Written → List ℕ
answer_line line Whole = line
answer_line line Failed = output_line

-- the program gave its answer: these bytes were written to the output, and a line to standard error
pub record Answered (outcome : Outcome) (i : Option Image) (r : Option Report) (bytes : List ℕ) (number : ℕ) (line : List ℕ)
    (out out' : Option (List ℕ)) (out_faults out_faults' : ℕ) (err err' : Option (List ℕ)) (faults faults' : ℕ) : Type 0 where
  pub wrote : Written
  pub status : outcome.status.0 ≡ answer_status number wrote
  pub image : outcome.image ≡ i
  pub report : outcome.report ≡ r
  pub written : outcome.written ≡ Some wrote
  pub output : Wrote out out' out_faults out_faults' bytes wrote
  pub told : (w : Written) × Wrote err err' faults faults' (answer_line line wrote) w

-- the program was run: its answer is what was printed, with the status and the line of its end
abbrev pub Ran : Outcome → Image → Report → (out out' : Option (List ℕ)) (out_faults out_faults' : ℕ) (err err' : Option (List ℕ)) (faults faults' : ℕ) → Type 0
Ran outcome i r out out' out_faults out_faults' err err' faults faults' =
    Answered outcome (Some i) (Some r) r.printed (end_status r.end) (end_line r.end) out out' out_faults out_faults' err err' faults faults'

-- the image was listed: its answer is the listing
abbrev pub Listed : Outcome → Image → (out out' : Option (List ℕ)) (out_faults out_faults' : ℕ) (err err' : Option (List ℕ)) (faults faults' : ℕ) → Type 0
Listed outcome i out out' out_faults out_faults' err err' faults faults' =
    Answered outcome (Some i) None (listed i) 0 [] out out' out_faults out_faults' err err' faults faults'

-- the check was passed: its answer is `ok`
abbrev pub Passed : Outcome → (out out' : Option (List ℕ)) (out_faults out_faults' : ℕ) (err err' : Option (List ℕ)) (faults faults' : ℕ) → Type 0
Passed outcome out out' out_faults out_faults' err err' faults faults' =
    Answered outcome None None (codes "ok\n") 0 [] out out' out_faults out_faults' err err' faults faults'

-- the made program was written: its answer is the text
abbrev pub Made : Outcome → ℕ → (out out' : Option (List ℕ)) (out_faults out_faults' : ℕ) (err err' : Option (List ℕ)) (faults faults' : ℕ) → Type 0
Made outcome number out out' out_faults out_faults' err err' faults faults' =
    Answered outcome None None (made_text number) 0 [] out out' out_faults out_faults' err err' faults faults'
