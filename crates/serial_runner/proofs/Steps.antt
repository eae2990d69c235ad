-- One instruction of a hart over words in a vector.
use Rattle.std.proofs.Common.{◌≡◌, ◌≢◌, ◌↔◌, ℕ, ◌+◌, ◌≤◌, List, Option, Some, None, length, map, length-set, refl, sym, ap, ◌∙◌, subst, arith}
use Rattle.std.specs.Prelude.{slice_get, slice_set, IsTrue, IsFalse}
use Rattle.rv_model.specs.declared.image.Image.{Image}
use Rattle.rv_model.specs.declared.instr.Instr.{Instr}
use Rattle.rv_model.specs.declared.hart.Hart.{Hart as HartState}
use Rattle.rv_model.specs.declared.hart.Access.TheVariants.{Loading, Storing, Swapping, Adding, Masking, Exchanging}
use Rattle.rv_model.specs.Table.{AreWellFormed}
use Rattle.rv_model.specs.Machine.{Words, Hart, Plan, Moves, Accesses, Awaits, Stops, Faults, Move, Goes, Fault, plan, answered, word_at, words_after, hart_of, words_of, step}
use Rattle.rv_model.specs.Run.{machine_of, hart_step, turned, turn_of, move_of}
use Rattle.rv_model.specs.Serial.{is_over, goes}
use Rattle.rv_model.proofs.Lists.{map_get, map_set, set_same}
use Rattle.rv_model.proofs.Plans.{IsForRegisters, plan_registers}
use Rattle.rv_model.specs.Word.{bit}
use Rattle.serial_runner.proofs.Counts.{total_set, retired_get, retired_set, within_set, below_budget}
use Rattle.rv_model.proofs.InTurns.{answered-retired}
use Rattle.rv_step.specs.declared.instruction.Turn.{Turn}
use Rattle.rv_step.specs.declared.instruction.Turn.TheVariants as turn
use Rattle.rv_step.specs.Seen.{seen_turn}
use Rattle.rv_step.specs.Told.{told_then, IsFound}
use Rattle.serial_runner.specs.Turns.{IsReady, IsStep, IsStill, HasFault, is_went, total, retired_at}

-- the word that was found is the one that the definition reads
pub found_step : (h : Hart) (p : Plan) (w : Words) (n : ℕ) → IsForRegisters p → IsFound n p (Some w) → answered h p n ≡ answered h p (word_at p w)
found_step h (Moves to r) w n reg f = refl
found_step h (Accesses (Loading at) rd part) w n reg f = ap (answered h (Accesses (Loading at) rd part)) (f tt)
found_step h (Accesses (Storing at v) rd part) w n reg f =
    ap (λ (d : ℕ). answered h (Accesses (Storing at v) d part) n) reg
    ∙ sym (ap (λ (d : ℕ). answered h (Accesses (Storing at v) d part) (w at)) reg)
found_step h (Accesses (Swapping at v) rd part) w n reg f = ap (answered h (Accesses (Swapping at v) rd part)) (f tt)
found_step h (Accesses (Adding at v) rd part) w n reg f = ap (answered h (Accesses (Adding at v) rd part)) (f tt)
found_step h (Accesses (Masking at v) rd part) w n reg f = ap (answered h (Accesses (Masking at v) rd part)) (f tt)
found_step h (Accesses (Exchanging at e v) rd part) w n reg f = ap (answered h (Accesses (Exchanging at e v) rd part)) (f tt)
found_step h (Awaits at v) w n reg f = ap (answered h (Awaits at v)) f
found_step h Stops w n reg f = refl
found_step h Faults w n reg f = refl

-- what one instruction has done, as `step` promises it over words that are told
pub record Told (size : ℕ) (code : List Instr) (h h' : HartState) (ws ws' : List ℕ) (t : Turn) : Type 0 where
  pub well_formed : AreWellFormed code
  pub answer : ℕ
  pub turned : seen_turn t (hart_of h') ≡ answered (hart_of h) (plan size code (hart_of h)) answer
  pub told : Some (words_of ws') ≡ told_then (plan size code (hart_of h)) (answered (hart_of h) (plan size code (hart_of h)) answer) (Some (words_of ws))
  pub found : IsFound answer (plan size code (hart_of h)) (Some (words_of ws))
  pub unchanged : t ≢ turn.Went → h' ≡ h

pub moved_as : (size : ℕ) (code : List Instr) (h h' : HartState) (ws ws' : List ℕ) (t : Turn) → Told size code h h' ws ws' t → seen_turn t (hart_of h') ≡ step size code (hart_of h) (words_of ws)
moved_as size code h h' ws ws' t it = it.turned ∙ found_step (hart_of h) (plan size code (hart_of h)) (words_of ws) it.answer (plan_registers size code (hart_of h) it.well_formed) it.found

words_are : (a b : Words) → Some a ≡ Some b → a ≡ b
words_are a b e = ap (λ (o : Option Words). unwrapped o) e
  where
    unwrapped : Option Words → Words
    unwrapped None = a
    unwrapped (Some w) = w

-- the machine after a step
pub went_on : (image : Image) (hs : List HartState) (i : ℕ) (h h' : HartState) (ws ws' : List ℕ) → slice_get hs i ≡ Some h → Told image.size image.code h h' ws ws' turn.Went → machine_of (slice_set hs i h') ws' ≡ hart_step image i (machine_of hs ws)
went_on image hs i h h' ws ws' at it =
    let p = plan image.size image.code (hart_of h) in
    let s = machine_of hs ws in
    let words : words_of ws' ≡ words_after p (words_of ws) = words_are _ _ (it.told ∙ ap (λ (m : Move). told_then p m (Some (words_of ws))) (sym it.turned)) in
    let here : slice_get s.harts i ≡ Some (hart_of h) = map_get hart_of hs i h at in
    let stepped : hart_step image i s ≡ turned s i p (Goes (hart_of h')) = ap (turn_of image.size image.code s i) here ∙ ap (turned s i p) (sym (moved_as image.size image.code h h' ws ws' turn.Went it)) in
    (λ j. record { words = words j; harts = map_set hart_of hs i h' j }) ∙ sym stepped

-- the hart's count after a step
pub went_count : (size : ℕ) (code : List Instr) (h h' : HartState) (ws ws' : List ℕ) → Told size code h h' ws ws' turn.Went → h'.retired ≡ h.retired + 1
went_count size code h h' ws ws' it = answered-retired (hart_of h) (hart_of h') (plan size code (hart_of h)) it.answer (sym it.turned)

-- a hart that hasn't gone on has no step
pub still_goes : (size : ℕ) (code : List Instr) (h h' : HartState) (ws ws' : List ℕ) (t : Turn) → Told size code h h' ws ws' t → IsFalse (is_went t) → IsFalse (goes (step size code (hart_of h) (words_of ws)))
still_goes size code h h' ws ws' turn.Went it f = absurd (cc)
still_goes size code h h' ws ws' turn.Waits it f = sym (ap goes (moved_as size code h h' ws ws' turn.Waits it))
still_goes size code h h' ws ws' turn.Stopped it f = sym (ap goes (moved_as size code h h' ws ws' turn.Stopped it))
still_goes size code h h' ws ws' turn.Fault it f = sym (ap goes (moved_as size code h h' ws ws' turn.Fault it))

still_words : (size : ℕ) (code : List Instr) (h h' : HartState) (ws ws' : List ℕ) (t : Turn) → Told size code h h' ws ws' t → IsFalse (is_went t) → words_of ws' ≡ words_of ws
still_words size code h h' ws ws' turn.Went it f = absurd (cc)
still_words size code h h' ws ws' turn.Waits it f = words_are _ _ (it.told ∙ ap (λ (m : Move). told_then (plan size code (hart_of h)) m (Some (words_of ws))) (sym it.turned))
still_words size code h h' ws ws' turn.Stopped it f = words_are _ _ (it.told ∙ ap (λ (m : Move). told_then (plan size code (hart_of h)) m (Some (words_of ws))) (sym it.turned))
still_words size code h h' ws ws' turn.Fault it f = words_are _ _ (it.told ∙ ap (λ (m : Move). told_then (plan size code (hart_of h)) m (Some (words_of ws))) (sym it.turned))

went_is : (t : Turn) → IsTrue (is_went t) → t ≡ turn.Went
went_is turn.Went f = refl
went_is turn.Waits f = absurd (cc)
went_is turn.Stopped f = absurd (cc)
went_is turn.Fault f = absurd (cc)

-- a step that went on
pub steps : (image : Image) (hs : List HartState) (i : ℕ) (h h' : HartState) (ws ws' : List ℕ) (t : Turn) → slice_get hs i ≡ Some h → Told image.size image.code h h' ws ws' t → IsFalse (is_over image (machine_of hs ws)) → IsTrue (is_went t) → IsStep image i (machine_of hs ws) (machine_of (slice_set hs i h') ws')
steps image hs i h h' ws ws' t at it running f = record {
  running = running;
  next = went_on image hs i h h' ws ws' at (subst (Told image.size image.code h h' ws ws') (went_is t f) it);
}

differ : (t : Turn) → IsFalse (is_went t) → t ≢ turn.Went
differ turn.Went f e = cc
differ turn.Waits f e = cc
differ turn.Stopped f e = cc
differ turn.Fault f e = cc

-- a turn says that the hart is at fault exactly where it is
pub at_fault : (image : Image) (hs : List HartState) (i : ℕ) (h h' : HartState) (ws ws' : List ℕ) (t : Turn) → slice_get hs i ≡ Some h → Told image.size image.code h h' ws ws' t → t ≡ turn.Fault ↔ HasFault image i (machine_of hs ws)
at_fault image hs i h h' ws ws' t at it = (forward, backward)
  where
    moved : seen_turn t (hart_of h') ≡ move_of image (words_of ws) (hart_of h)
    moved = moved_as image.size image.code h h' ws ws' t it

    forward : t ≡ turn.Fault → HasFault image i (machine_of hs ws)
    forward e = (hart_of h, map_get hart_of hs i h at, sym moved ∙ ap (λ x. seen_turn x (hart_of h')) e)

    fault_is : (x : Turn) (y : Hart) → seen_turn x y ≡ Fault → x ≡ turn.Fault
    fault_is turn.Went y e = absurd (cc)
    fault_is turn.Waits y e = absurd (cc)
    fault_is turn.Stopped y e = absurd (cc)
    fault_is turn.Fault y e = refl

    some_is : (x y : Hart) → Some x ≡ Some y → x ≡ y
    some_is x y e = cc

    backward : HasFault image i (machine_of hs ws) → t ≡ turn.Fault
    backward f = fault_is t (hart_of h') (moved ∙ subst (λ (y : Hart). move_of image (words_of ws) y ≡ Fault) (some_is f.0 (hart_of h) (sym f.1 ∙ map_get hart_of hs i h at)) f.2)

-- the hart's count after a turn
count_after : (size : ℕ) (code : List Instr) (h h' : HartState) (ws ws' : List ℕ) (t : Turn) → Told size code h h' ws ws' t → h'.retired ≡ h.retired + bit (is_went t)
count_after size code h h' ws ws' t it = by t it
  where
    same : h' ≡ h → h'.retired ≡ h.retired + 0
    same e = let n : h'.retired ≡ h.retired = ap (λ (y : HartState). y.retired) e in omega (arith, n)

    by : (t : Turn) → Told size code h h' ws ws' t → h'.retired ≡ h.retired + bit (is_went t)
    by turn.Went x = went_count size code h h' ws ws' x
    by turn.Waits x = same (x.unchanged (differ turn.Waits refl))
    by turn.Stopped x = same (x.unchanged (differ turn.Stopped refl))
    by turn.Fault x = same (x.unchanged (differ turn.Fault refl))

-- the counts of all harts after a step
pub counted : (size : ℕ) (code : List Instr) (hs : List HartState) (i : ℕ) (h h' : HartState) (ws ws' : List ℕ) (t : Turn) → slice_get hs i ≡ Some h → Told size code h h' ws ws' t → total hs + bit (is_went t) ≤ total (slice_set hs i h')
counted size code hs i h h' ws ws' t at it = let n = count_after size code h h' ws ws' t it in let m = total_set hs i h h' at in omega (arith, n, m)

pub counted_at : (size : ℕ) (code : List Instr) (hs : List HartState) (i : ℕ) (h h' : HartState) (ws ws' : List ℕ) (t : Turn) → slice_get hs i ≡ Some h → Told size code h h' ws ws' t → retired_at i (slice_set hs i h') ≡ retired_at i hs + bit (is_went t)
counted_at size code hs i h h' ws ws' t at it = let n = count_after size code h h' ws ws' t it in let m = retired_set hs i h h' at in let k = retired_get hs i h at in omega (arith, n, m, k)

-- the harts and words after a step
pub ready_after : (image : Image) (hs : List HartState) (i : ℕ) (h h' : HartState) (ws ws' : List ℕ) → slice_get hs i ≡ Some h → IsReady image hs ws → IsFalse (is_over image (machine_of hs ws)) → h'.retired ≤ h.retired + 1 → length ws' ≡ length ws → IsReady image (slice_set hs i h') ws'
ready_after image hs i h h' ws ws' at ready running more size = record {
  size = size ∙ ready.size;
  count = length-set hs i h' ∙ ready.count;
  within = within_set image.settings.budget hs i h h' at ready.within (let b = below_budget image hs ws i h ready running at in omega (arith, b, more));
}

pub still : (image : Image) (hs : List HartState) (i : ℕ) (h h' : HartState) (ws ws' : List ℕ) (t : Turn) → slice_get hs i ≡ Some h → Told image.size image.code h h' ws ws' t → IsFalse (is_over image (machine_of hs ws)) → IsFalse (is_went t) → IsStill image i (machine_of hs ws) (machine_of (slice_set hs i h') ws')
still image hs i h h' ws ws' t at it running f = record {
  running = running;
  none = none;
  same = λ j. record { words = still_words image.size image.code h h' ws ws' t it f j; harts = ap (map hart_of) (ap (slice_set hs i) (it.unchanged (differ t f)) ∙ set_same hs i h at) j };
}
  where
    some_is : (x y : Hart) → Some x ≡ Some y → x ≡ y
    some_is x y e = cc

    none : (x : Hart) → slice_get (machine_of hs ws).harts i ≡ Some x → IsFalse (goes (move_of image (words_of ws) x))
    none x e = subst (λ (y : Hart). IsFalse (goes (move_of image (words_of ws) y))) (some_is (hart_of h) x (sym (map_get hart_of hs i h at) ∙ e)) (still_goes image.size image.code h h' ws ws' t it f)
