-- What holds between the instructions of a run in turns.
use Rattle.std.specs.Prelude.{◌≡◌, ℕ, zero, suc, ◌+◌, ◌≤◌, List, [], ◌∷◌, Bool, true, false, not, ◌==◌, ◌||◌, length, slice_get, Some, IsFalse}
use Rattle.rv_model.specs.declared.image.Image.{Image}
use Rattle.rv_model.specs.declared.hart.Hart.{Hart as HartState}
use Rattle.rv_model.specs.declared.layout.TheConstants.{END_WORD}
use Rattle.rv_model.specs.Machine.{Hart, words_of, Fault as MoveFault}
use Rattle.rv_model.specs.Run.{Machine, hart_step, move_of}
use Rattle.rv_model.specs.Serial.{is_over, goes}
use Rattle.rv_step.specs.declared.instruction.Turn.{Turn}
use Rattle.rv_step.specs.declared.instruction.Turn.TheVariants.{Went, Waits, Stopped, Fault}

-- the hart's budget is spent
abbrev pub is_spent : ℕ → HartState → Bool
is_spent budget h = h.retired == budget

-- the instructions that all harts have retired
abbrev pub total : List HartState → ℕ
total [] = 0
total (h ∷ hs) = h.retired + total hs

-- the instructions that hart i has retired
abbrev pub retired_at : ℕ → List HartState → ℕ
retired_at i [] = 0
retired_at zero (h ∷ hs) = h.retired
retired_at (suc i) (h ∷ hs) = retired_at i hs

-- no hart has retired more than the budget
abbrev pub AreWithin : ℕ → List HartState → Type 0
AreWithin budget hs = (k : ℕ) (h : HartState) → slice_get hs k ≡ Some h → h.retired ≤ budget

-- harts and words of the image's sizes, within the budget
pub record IsReady (image : Image) (harts : List HartState) (words : List ℕ) : Type 0 where
  pub size : length words ≡ image.size
  pub count : length harts ≡ image.settings.domains
  pub within : AreWithin image.settings.budget harts

-- the end word isn't 0
abbrev pub has_ended : List ℕ → Bool
has_ended words = not (words_of words END_WORD == 0)

-- the end word isn't 0, or the budget of hart i is spent
abbrev pub is_over_by : Image → ℕ → List HartState → List ℕ → Bool
is_over_by image i harts words = has_ended words || (retired_at i harts == image.settings.budget)

-- one instruction of hart i, in a run that isn't over
pub record IsStep (image : Image) (i : ℕ) (s s' : Machine) : Type 0 where
  pub running : IsFalse (is_over image s)
  pub next : s' ≡ hart_step image i s

-- hart i has no step
abbrev pub HasNoStep : Image → ℕ → Machine → Type 0
HasNoStep image i s = (h : Hart) → slice_get s.harts i ≡ Some h → IsFalse (goes (move_of image s.words h))

-- hart i is at fault: its next instruction can't be carried out
abbrev pub HasFault : Image → ℕ → Machine → Type 0
HasFault image i s = (h : Hart) × (slice_get s.harts i ≡ Some h) × (move_of image s.words h ≡ MoveFault)

-- nothing has changed in a run that isn't over, since hart i has no step
pub record IsStill (image : Image) (i : ℕ) (s s' : Machine) : Type 0 where
  pub running : IsFalse (is_over image s)
  pub none : HasNoStep image i s
  pub same : s' ≡ s

-- the hart is one instruction further
abbrev pub is_went : Turn → Bool
is_went Went = true
is_went Waits = false
is_went Stopped = false
is_went Fault = false
