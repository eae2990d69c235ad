-- The end of a run in turns.
use Rattle.std.specs.Prelude.{◌≡◌, ◌≢◌, ℕ, suc, ◌+◌, ◌<◌, ◌≤◌, ◌⊎◌, List, [], ◌∷◌, Option, Some, None, slice_get, IsFalse, if◌then◌else◌}
use Rattle.rv_model.specs.declared.hart.Hart.{Hart}
use Rattle.rv_model.specs.declared.image.Image.{Image}
use Rattle.rv_model.specs.declared.layout.TheConstants.{END_WORD, LOG_WORD}
use Rattle.rv_model.specs.declared.report.RunEnd.{RunEnd}
use Rattle.rv_model.specs.declared.report.RunEnd.TheVariants.{BudgetSpent, Deadlock}
use Rattle.rv_model.specs.Machine.{Words, Fault, hart_of, words_of}
use Rattle.rv_model.specs.Layout.{end, log_words, IsSound}
use Rattle.rv_model.specs.Run.{move_of}
use Rattle.rv_model.specs.Serial.{goes}
use Rattle.serial_runner.specs.Turns.{is_spent}

-- the end where the words tell none: the first hart, from number i up, that has spent its budget, else a deadlock
abbrev pub unfinished : ℕ → ℕ → List Hart → RunEnd
unfinished budget i [] = Deadlock
unfinished budget i (h ∷ hs) = if is_spent budget h then BudgetSpent i budget else unfinished budget (suc i) hs

abbrev pub end_or : RunEnd → Option RunEnd → RunEnd
end_or e None = e
end_or e (Some told) = told

-- the end that the words tell, else a spent budget, else a deadlock
abbrev pub ending : ℕ → Words → List Hart → RunEnd
ending budget w hs = end_or (unfinished budget 0 hs) (end w)

-- the end word is 0, and hart i is the first that has retired as many instructions as the budget has
pub record IsBudgetSpent (image : Image) (words : List ℕ) (harts : List Hart) (i : ℕ) : Type 0 where
  pub running : words_of words END_WORD ≡ 0
  pub hart : Hart
  pub there : slice_get harts i ≡ Some hart
  pub spent : hart.retired ≡ image.settings.budget
  pub first : (j : ℕ) (h : Hart) → j < i → slice_get harts j ≡ Some h → h.retired ≢ image.settings.budget

-- the end word is 0, no hart's budget is spent, and none has a step: each waits or has stopped
pub record IsDeadlocked (image : Image) (words : List ℕ) (harts : List Hart) : Type 0 where
  pub running : words_of words END_WORD ≡ 0
  pub unspent : (i : ℕ) (h : Hart) → slice_get harts i ≡ Some h → h.retired ≢ image.settings.budget
  pub none : (i : ℕ) (h : Hart) → slice_get harts i ≡ Some h → IsFalse (goes (move_of image (words_of words) (hart_of h)))

-- the words have room for the words of fixed meaning and the log
abbrev pub HasRoom : Image → Type 0
HasRoom image = LOG_WORD + log_words image.settings.out ≤ image.size

-- the end word is 0, no hart's budget is spent, and a hart is at fault: its next instruction can't be carried out
pub record IsFaulted (image : Image) (words : List ℕ) (harts : List Hart) : Type 0 where
  pub running : words_of words END_WORD ≡ 0
  pub unspent : (i : ℕ) (h : Hart) → slice_get harts i ≡ Some h → h.retired ≢ image.settings.budget
  pub number : ℕ
  pub hart : Hart
  pub there : slice_get harts number ≡ Some hart
  pub fault : move_of image (words_of words) (hart_of hart) ≡ Fault

-- the image has broken the machine's promise: there is no room for its fixed words and its log, the words aren't sound, or a hart
-- is at fault in a run that isn't over
abbrev pub IsBroken : Image → List ℕ → List Hart → Type 0
IsBroken image words harts = ¬ HasRoom image ⊎ ¬ IsSound image.settings.out (words_of words) ⊎ IsFaulted image words harts
