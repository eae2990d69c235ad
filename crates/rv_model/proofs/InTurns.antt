-- A run in turns is one of the runs in any order.
use Rattle.std.proofs.Common.{◌≡◌, ◌≢◌, ℕ, zero, suc, ◌<◌, ◌≤◌, List, [], ◌∷◌, ◌++◌, ◌+◌, map, Option, Some, None, Bool, true, false, refl, sym, ap, ◌∙◌, subst, arith, ◌||◌, not}
use Rattle.std.specs.Prelude.{slice_get, All, ◌==◌, if◌then◌else◌}
use Rattle.std.specs.List.{list_any}
use Rattle.std.proofs.lemmas.Option.{get_or_from_slice_get, slice_get_within}
use Rattle.std.proofs.lemmas.List.Elements.{All-nil, All-cons}
use Rattle.std.proofs.lemmas.Bool.{eqb-false}
use Rattle.rv_model.specs.declared.image.Image.{Image}
use Rattle.rv_model.specs.declared.hart.Hart.{Hart as HartState}
use Rattle.rv_model.specs.declared.layout.TheConstants.{END_WORD}
use Rattle.rv_model.specs.Machine.{Hart, Plan, Moves, Accesses, Awaits, Stops, Faults, Move, Goes, Waits, Stopped, Fault, plan, answered, word_at, moved, next, put, hart_of}
use Rattle.rv_model.specs.Start.{first_harts}
use Rattle.rv_model.specs.Run.{Machine, first, turned, turn_of, hart_step, reached, IsWithin, Reaches, Reach}
use Rattle.rv_model.specs.Serial.{is_over, turn, turns_from, rounds, Serial}
use Rattle.rv_model.proofs.Reaching.{Grows, run_then, all_set, grows_none, grows_then, grows_reaches}

count_of : Move → ℕ
count_of (Goes h) = h.retired
count_of Waits = 0
count_of Stopped = 0
count_of Fault = 0

-- an instruction adds one to the hart's count
pub answered-retired : (h h' : Hart) (p : Plan) (n : ℕ) → answered h p n ≡ Goes h' → h'.retired ≡ h.retired + 1
unfolding count_of
answered-retired h h' (Moves to r) n e = sym (ap count_of e)
answered-retired h h' (Accesses a rd part) n e = sym (ap count_of e)
answered-retired h h' (Awaits at v) n e = by (n == v) e
  where
    by : (b : Bool) → (if b then Waits else Goes (moved h (next h) (put h.regs 10 n))) ≡ Goes h' → h'.retired ≡ h.retired + 1
    by true x = absurd (cc)
    by false x = sym (ap count_of x)
answered-retired h h' Stops n e = absurd (cc)
answered-retired h h' Faults n e = absurd (cc)

-- where no budget is spent, that of this hart isn't
pub none_spent : (budget : ℕ) (l : List Hart) (i : ℕ) (h : Hart) → list_any (λ (x : Hart). x.retired == budget) l ≡ false → slice_get l i ≡ Some h → h.retired ≢ budget
none_spent budget [] i h e at = absurd (cc)
none_spent budget (x ∷ l) zero h e at = eqb-false h.retired budget (sym (ap (λ (y : Hart). y.retired == budget) (some_is x h at)) ∙ left (x.retired == budget) (list_any (λ (y : Hart). y.retired == budget) l) e)
  where
    some_is : (x h : Hart) → Some x ≡ Some h → x ≡ h
    some_is x h s = cc

    left : (a b : Bool) → (a || b) ≡ false → a ≡ false
    left true b f = f
    left false b f = refl
none_spent budget (x ∷ l) (suc i) h e at = none_spent budget l i h (right (x.retired == budget) _ e) at
  where
    right : (a b : Bool) → (a || b) ≡ false → b ≡ false
    right true b f = absurd (cc)
    right false b f = f

-- one instruction of a hart, while the run isn't over, keeps within the budget
step_within : (image : Image) (s : Machine) (i : ℕ) → is_over image s ≡ false → IsWithin image s → IsWithin image (hart_step image i s)
step_within image s i running within = by_hart (slice_get s.harts i) refl
  where
    spent : Bool
    spent = list_any (λ (x : Hart). x.retired == image.settings.budget) s.harts

    right : (a b : Bool) → (a || b) ≡ false → b ≡ false
    right true b f = absurd (cc)
    right false b f = f

    below : (h : Hart) → slice_get s.harts i ≡ Some h → h.retired < image.settings.budget
    below h at =
        let le : h.retired ≤ image.settings.budget = subst (λ (x : Hart). x.retired ≤ image.settings.budget) (get_or_from_slice_get s.harts i h h at) (within i h (slice_get_within s.harts i h at)) in
        let ne : h.retired ≢ image.settings.budget = none_spent image.settings.budget s.harts i h (right (not (s.words END_WORD == 0)) spent running) at in
        omega (arith, le, ne)

    by_move : (h : Hart) → slice_get s.harts i ≡ Some h → (p : Plan) (m : Move) → answered h p (word_at p s.words) ≡ m → IsWithin image (turned s i p m)
    by_move h at p (Goes h') e = all_set image s.harts i h' within (omega (arith, below h at, answered-retired h h' p (word_at p s.words) e))
    by_move h at p Waits e = within
    by_move h at p Stopped e = within
    by_move h at p Fault e = within

    by_hart : (o : Option Hart) → slice_get s.harts i ≡ o → IsWithin image (turn_of image.size image.code s i o)
    by_hart None at = within
    by_hart (Some h) at = by_move h at (plan image.size image.code h) _ refl

step_grows : (image : Image) (s : Machine) (i : ℕ) → is_over image s ≡ false → Grows image s (hart_step image i s)
step_grows image s i running list within e =
    let there : reached image (list ++ i ∷ []) ≡ hart_step image i s = run_then image _ list i ∙ ap (hart_step image i) e in
    (i ∷ [], subst (IsWithin image) (sym there) (step_within image s i running (subst (IsWithin image) e within)), there)

turn_grows : (image : Image) (n i : ℕ) (s : Machine) → Grows image s (turn image n i s)
unfolding turn
turn_grows image zero i s = grows_none image s
turn_grows image (suc n) i s = by (turn_grows image n i (hart_step image i s)) (is_over image s) refl
  where
    by : Grows image (hart_step image i s) (turn image n i (hart_step image i s)) → (b : Bool) → is_over image s ≡ b → Grows image s (if b then s else turn image n i (hart_step image i s))
    by rest true e = grows_none image s
    by rest false e = grows_then image s (hart_step image i s) _ (step_grows image s i e) rest

turns_grow : (image : Image) (turns i n : ℕ) (s : Machine) → Grows image s (turns_from image turns i n s)
unfolding turns_from
turns_grow image turns i zero s = grows_none image s
turns_grow image turns i (suc n) s = grows_then image s (turn image turns i s) _ (turn_grows image turns i s) (turns_grow image turns (suc i) n (turn image turns i s))

rounds_grow : (image : Image) (turns n : ℕ) (s : Machine) → Grows image s (rounds image turns n s)
unfolding rounds
rounds_grow image turns zero s = grows_none image s
rounds_grow image turns (suc n) s = grows_then image s (turns_from image turns 0 image.settings.domains s) _ (turns_grow image turns 0 image.settings.domains s) (rounds_grow image turns n (turns_from image turns 0 image.settings.domains s))

-- the start is within the budget
pub first_reaches : (image : Image) → Reaches image (first image)
first_reaches image = ([], each 0 image.settings.domains, refl)
  where
    each : (i n : ℕ) → All (λ (x : Hart). x.retired ≤ image.settings.budget) (map hart_of (first_harts i n))
    each i zero = All-nil (λ (x : Hart). x.retired ≤ image.settings.budget)
    each i (suc n) = All-cons (λ (x : Hart). x.retired ≤ image.settings.budget) _ _ (omega arith) (each (suc i) n)

-- a turn leads on from what can be reached
pub turn_reaches : (image : Image) (n i : ℕ) (s : Machine) → Reaches image s → Reaches image (turn image n i s)
turn_reaches image n i s = grows_reaches image s _ (turn_grows image n i s)

-- any number of rounds
pub rounds_reach : (image : Image) (turns n : ℕ) → Reaches image (rounds image turns n (first image))
rounds_reach image turns n = grows_reaches image (first image) _ (rounds_grow image turns n (first image)) (first_reaches image)

-- the words and harts at which the rounds come to rest are those of some list
pub serial_reaches : (image : Image) (turns : ℕ) (words : List ℕ) (harts : List HartState) → Serial image turns words harts → Reach image words harts
serial_reaches image turns words harts s = (s.0, subst (Reaches image) s.2 (rounds_reach image turns s.1))
