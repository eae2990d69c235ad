-- Runs of all harts, one instruction of one hart at a time, in any order.
use Rattle.std.specs.Prelude.{◌≡◌, ◌≢◌, ℕ, zero, suc, ◌+◌, ◌<◌, ◌≤◌, List, [], ◌∷◌, ◌++◌, Option, Some, None, slice_get, slice_set, length, All, map}
use Rattle.rv_model.specs.declared.instr.Instr.{Instr}
use Rattle.rv_model.specs.declared.image.Image.{Image}
use Rattle.rv_model.specs.declared.hart.Hart.{Hart as HartState}
use Rattle.rv_model.specs.declared.layout.TheConstants.{LOG_WORD}
use Rattle.rv_model.specs.Machine.{Regs, Words, Hart, Plan, Moves, Move, Goes, Waits, Stopped, Fault, plan, answered, word_at, words_after, moved, step, hart_of, words_of}
use Rattle.rv_model.specs.Layout.{Keeps, IsSound, log_words}
use Rattle.rv_model.specs.Start.{first_harts, start_words}

-- the words and the harts of a moment
pub record Machine : Type 0 where
  pub words : Words
  pub harts : List Hart

-- lists of words and harts as a machine
abbrev pub machine_of : List HartState → List ℕ → Machine
machine_of harts words = record { words = words_of words; harts = map hart_of harts }

-- the machine at the start
abbrev pub first : Image → Machine
first image = record { words = start_words image.start; harts = map hart_of (first_harts 0 image.settings.domains) }

-- the machine after hart i has made this plan and this has become of it
abbrev pub turned : Machine → ℕ → Plan → Move → Machine
turned s i p (Goes h) = record { words = words_after p s.words; harts = slice_set s.harts i h }
turned s i p Waits = s
turned s i p Stopped = s
turned s i p Fault = s

abbrev pub turn_of : ℕ → List Instr → Machine → ℕ → Option Hart → Machine
turn_of size code s i None = s
turn_of size code s i (Some h) = let p = plan size code h in turned s i p (answered h p (word_at p s.words))

-- one instruction of the hart with this number, where it has a step
abbrev pub hart_step : Image → ℕ → Machine → Machine
hart_step image i s = turn_of image.size image.code s i (slice_get s.harts i)

-- a list of hart numbers, from the left; a number whose hart has no step changes nothing
abbrev pub machine_run : Image → Machine → List ℕ → Machine
machine_run image s [] = s
machine_run image s (i ∷ is) = machine_run image (hart_step image i s) is

-- the machine that a list leads to from the start
abbrev pub reached : Image → List ℕ → Machine
reached image list = machine_run image (first image) list

-- no hart has retired more than the budget
abbrev pub IsWithin : Image → Machine → Type 0
IsWithin image s = All (λ (h : Hart). h.retired ≤ image.settings.budget) s.harts

abbrev pub IsWithinBudget : Image → List ℕ → Type 0
IsWithinBudget image list = IsWithin image (reached image list)

-- some list within the budget leads to this machine
abbrev pub Reaches : Image → Machine → Type 0
Reaches image s = (list : List ℕ) × IsWithinBudget image list × (reached image list ≡ s)

-- some list within the budget leads to these words and harts
abbrev pub Reach : Image → List ℕ → List HartState → Type 0
Reach image words harts = (length words ≡ image.size) × Reaches image (machine_of harts words)

-- what becomes of a hart at its next instruction
abbrev pub move_of : Image → Words → Hart → Move
move_of image w h = step image.size image.code h w

-- the promise that an image makes for every list within the budget, and for every way to go on
pub record Runs (image : Image) : Type 0 where
  pub room : LOG_WORD + log_words image.settings.out ≤ image.size
  pub no_fault : (list : List ℕ) → IsWithinBudget image list → (i : ℕ) (h : Hart) → slice_get (reached image list).harts i ≡ Some h → move_of image (reached image list).words h ≢ Fault
  pub sound : (list : List ℕ) → IsWithinBudget image list → IsSound image.settings.out (reached image list).words
  pub keeps : (list more : List ℕ) → IsWithinBudget image list → IsWithinBudget image (list ++ more) → Keeps (reached image list).words (reached image (list ++ more)).words

-- n register-only instructions within the budget lead from one state of a hart to another
abbrev pub IsLed : ℕ → List Instr → ℕ → ℕ → Hart → Hart → Type 0
IsLed size code budget zero h h' = h ≡ h'
IsLed size code budget (suc n) h h' =
    (m : Hart) × (to : ℕ) × (r : Regs) × IsLed size code budget n h m × (plan size code m ≡ Moves to r) × (m.retired < budget) × (moved m to r ≡ h')
