-- Turns and rounds, instruction by instruction.
use Rattle.std.proofs.Common.{◌≡◌, ℕ, zero, suc, ◌+◌, ◌<◌, ◌≤◌, List, [], ◌∷◌, Option, Some, None, Bool, true, false, length, map, inl, inr, ◌⊎◌, refl, sym, ap, ◌∙◌, subst, arith}
use Rattle.std.specs.Prelude.{slice_get, IsTrue, IsFalse, if◌then◌else◌}
use Rattle.std.proofs.lemmas.Bool.{cases_lt}
use Rattle.std.proofs.lemmas.Option.{slice_get_within}
use Rattle.rv_model.specs.declared.image.Image.{Image}
use Rattle.rv_model.specs.declared.hart.Hart.{Hart as HartState}
use Rattle.rv_model.specs.Machine.{hart_of, Hart, Plan, Move, Goes, Waits, Stopped, Fault, plan}
use Rattle.rv_model.specs.Run.{Machine, hart_step, turned, turn_of, move_of}
use Rattle.rv_model.specs.Serial.{is_over, goes, turn, turns_from, rounds, IsAtRest}
use Rattle.serial_runner.specs.Turns.{IsStep, IsStill, HasNoStep, HasFault}

-- a hart that has no step changes nothing
no_step : (image : Image) (i : ℕ) (s : Machine) → HasNoStep image i s → hart_step image i s ≡ s
no_step image i s none = by (slice_get s.harts i) refl
  where
    by_move : (p : Plan) (m : Move) → IsFalse (goes m) → turned s i p m ≡ s
    by_move p (Goes h) f = absurd (cc)
    by_move p Waits f = refl
    by_move p Stopped f = refl
    by_move p Fault f = refl

    by : (o : Option Hart) → slice_get s.harts i ≡ o → turn_of image.size image.code s i o ≡ s
    by None at = refl
    by (Some h) at = by_move (plan image.size image.code h) (move_of image s.words h) (none h at)

-- the turn goes on after one instruction
pub turn_step : (image : Image) (n i : ℕ) (s s' : Machine) → IsStep image i s s' → turn image (suc n) i s ≡ turn image n i s'
unfolding turn
turn_step image n i s s' one = ap (λ b. if b then s else turn image n i (hart_step image i s)) one.running ∙ ap (turn image n i) (sym one.next)

-- a turn in a run that is over
pub turn_over : (image : Image) (n i : ℕ) (s : Machine) → IsTrue (is_over image s) → turn image n i s ≡ s
unfolding turn
turn_over image zero i s over = refl
turn_over image (suc n) i s over = ap (λ b. if b then s else turn image n i (hart_step image i s)) over

-- a turn without an instruction
pub turn_still : (image : Image) (n i : ℕ) (s : Machine) → HasNoStep image i s → turn image n i s ≡ s
unfolding turn
turn_still image zero i s none = refl
turn_still image (suc n) i s none = by (is_over image s) (ap (turn image n i) (no_step image i s none) ∙ turn_still image n i s none)
  where
    by : (b : Bool) → turn image n i (hart_step image i s) ≡ s → (if b then s else turn image n i (hart_step image i s)) ≡ s
    by true e = refl
    by false e = e

-- the turns of the other harts follow that of the first
pub turns_next : (image : Image) (turns i n : ℕ) (s s' : Machine) → s' ≡ turn image turns i s → turns_from image turns i (suc n) s ≡ turns_from image turns (suc i) n s'
unfolding turns_from
turns_next image turns i n s s' e = ap (turns_from image turns (suc i) n) (sym e)

-- the turns of a run that is over
pub turns_over : (image : Image) (turns i n : ℕ) (s : Machine) → IsTrue (is_over image s) → turns_from image turns i n s ≡ s
unfolding turns_from
turns_over image turns i zero s over = refl
turns_over image turns i (suc n) s over = ap (turns_from image turns (suc i) n) (turn_over image turns i s over) ∙ turns_over image turns (suc i) n s over

pub turns_none : (image : Image) (turns i : ℕ) (s : Machine) → turns_from image turns i 0 s ≡ s
unfolding turns_from
turns_none image turns i s = refl

-- one more round
pub rounds_more : (image : Image) (turns n : ℕ) (s s' : Machine) → s' ≡ turns_from image turns 0 image.settings.domains (rounds image turns n s) → rounds image turns (suc n) s ≡ s'
unfolding rounds
rounds_more image turns zero s s' e = sym e
rounds_more image turns (suc n) s s' e = rounds_more image turns n (turns_from image turns 0 image.settings.domains s) s' e

pub rounds_none : (image : Image) (turns : ℕ) (s : Machine) → rounds image turns 0 s ≡ s
unfolding rounds
rounds_none image turns s = refl

pub count_seen : (l : List HartState) → length (map hart_of l) ≡ length l
count_seen [] = refl
count_seen (h ∷ l) = ap suc (count_seen l)

-- where no hart has a step, the run is at rest
pub at_rest : (image : Image) (s : Machine) (n : ℕ) → length s.harts ≡ n → ((i : ℕ) → i < n → HasNoStep image i s) → IsAtRest image s
at_rest image s n count none = inr (λ i h at. none i (let lt = slice_get_within s.harts i h at in omega (arith, lt, count)) h at)

pub turn_none : (image : Image) (i : ℕ) (s : Machine) → turn image 0 i s ≡ s
unfolding turn
turn_none image i s = refl

-- one hart more that has no step
pub still_below : (image : Image) (k : ℕ) (s s' : Machine) → IsStill image k s s' → ((i : ℕ) → i < k → HasNoStep image i s) → (i : ℕ) → i < k + 1 → HasNoStep image i s'
still_below image k s s' still below i more = subst (HasNoStep image i) (sym still.same) (by (cases_lt i k))
  where
    by : (i < k) ⊎ (k ≤ i) → HasNoStep image i s
    by (inl lt) = below i lt
    by (inr ge) = subst (λ j. HasNoStep image j s) (let same : k ≡ i = omega (arith, ge, more) in same) still.none

-- and one more that is at no fault
pub kept_below : (image : Image) (k : ℕ) (s s' : Machine) → s' ≡ s → (HasFault image k s' → ⊥) → ((i : ℕ) → i < k → HasFault image i s → ⊥) → (i : ℕ) → i < k + 1 → HasFault image i s' → ⊥
kept_below image k s s' same none below i more = by (cases_lt i k)
  where
    by : (i < k) ⊎ (k ≤ i) → HasFault image i s' → ⊥
    by (inl lt) f = below i lt (subst (HasFault image i) same f)
    by (inr ge) f = none (subst (λ j. HasFault image j s') (let e : i ≡ k = omega (arith, ge, more) in e) f)
