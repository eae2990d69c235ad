-- The one run in turns: round by round, each hart in its order.
use Rattle.std.specs.Prelude.{◌≡◌, ℕ, zero, suc, List, ◌==◌, ◌||◌, ◌⊎◌, not, Bool, true, false, if◌then◌else◌, Some, slice_get, length, IsTrue, IsFalse}
use Rattle.std.specs.List.{list_any}
use Rattle.rv_model.specs.declared.image.Image.{Image}
use Rattle.rv_model.specs.declared.hart.Hart.{Hart as HartState}
use Rattle.rv_model.specs.declared.layout.TheConstants.{END_WORD}
use Rattle.rv_model.specs.Machine.{Hart, Move, Goes, Waits, Stopped, Fault}
use Rattle.rv_model.specs.Run.{Machine, machine_of, first, hart_step, move_of}

-- the end word isn't 0, or a hart's budget is spent
abbrev pub is_over : Image → Machine → Bool
is_over image s = not (s.words END_WORD == 0) || list_any (λ (h : Hart). h.retired == image.settings.budget) s.harts

-- the next n instructions of hart i, or fewer where it has no step before; none once the run is over
unfoldable pub turn : Image → ℕ → ℕ → Machine → Machine
turn image zero i s = s
turn image (suc n) i s = if is_over image s then s else turn image n i (hart_step image i s)

-- the turns of n harts, from hart i up
unfoldable pub turns_from : Image → ℕ → ℕ → ℕ → Machine → Machine
turns_from image turns i zero s = s
turns_from image turns i (suc n) s = turns_from image turns (suc i) n (turn image turns i s)

-- n rounds; in a round each hart takes its turn, from hart 0 up
unfoldable pub rounds : Image → ℕ → ℕ → Machine → Machine
rounds image turns zero s = s
rounds image turns (suc n) s = rounds image turns n (turns_from image turns 0 image.settings.domains s)

-- the hart goes on
abbrev pub goes : Move → Bool
goes (Goes h) = true
goes Waits = false
goes Stopped = false
goes Fault = false

-- the run is over, or no hart has a step
abbrev pub IsAtRest : Image → Machine → Type 0
IsAtRest image s = IsTrue (is_over image s) ⊎ ((i : ℕ) (h : Hart) → slice_get s.harts i ≡ Some h → IsFalse (goes (move_of image s.words h)))

-- the words and harts at which the rounds come to rest
abbrev pub Serial : Image → ℕ → List ℕ → List HartState → Type 0
Serial image turns words harts =
    (length words ≡ image.size)
    × (n : ℕ) × (rounds image turns n (first image) ≡ machine_of harts words) × IsAtRest image (machine_of harts words)
