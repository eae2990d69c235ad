-- When a run ends by a spent budget, and when by a deadlock.
use Rattle.std.proofs.Common.{◌≡◌, ◌≢◌, ℕ, zero, suc, ◌+◌, ◌<◌, ◌≤◌, List, [], ◌∷◌, map, Option, Some, None, Bool, true, false, inl, inr, ◌↔◌, ◌||◌, not, refl, sym, ap, ◌∙◌, subst, arith}
use Rattle.std.specs.Prelude.{slice_get, ◌==◌, IsTrue, IsFalse, if◌then◌else◌}
use Rattle.std.specs.List.{list_any}
use native.Mathlib.Decide.{ℕ_discrete}
use Rattle.std.proofs.lemmas.Bool.{eq-eqb, eqb-true, eqb-false, ne_eqb}
use Rattle.rv_model.specs.declared.hart.Hart.{Hart}
use Rattle.rv_model.specs.declared.image.Image.{Image}
use Rattle.rv_model.specs.declared.layout.TheConstants.{END_WORD}
use Rattle.rv_model.specs.declared.report.RunEnd.{RunEnd}
use Rattle.rv_model.specs.declared.report.RunEnd.TheVariants as ends
use Rattle.rv_model.specs.Machine.{Words, Hart as SeenHart, hart_of, words_of}
use Rattle.rv_model.specs.Layout.{end, end_of}
use Rattle.rv_model.specs.Run.{move_of, machine_of}
use Rattle.rv_model.specs.Serial.{goes, is_over, IsAtRest, Serial}
use Rattle.rv_model.proofs.Ends.{end-over, end-running}
use Rattle.rv_model.proofs.Lists.{map_get}
use Rattle.serial_runner.specs.Turns.{is_spent}
use Rattle.serial_runner.specs.Ending.{unfinished, end_or, ending, IsBudgetSpent, IsDeadlocked}
use Rattle.serial_runner.proofs.Counts.{any_seen}

some_is : {A : Type 0} (x y : A) → Some x ≡ Some y → x ≡ y
some_is x y e = cc

-- the words can tell this end
abbrev is_told : RunEnd → Bool
is_told (ends.BudgetSpent hart count) = false
is_told ends.Deadlock = false
is_told ends.Broken = false
is_told (ends.Exited status) = true
is_told (ends.Uncaught text) = true
is_told (ends.HeapFull used asked size) = true
is_told (ends.StackFull need size) = true
is_told (ends.CallsFull active) = true
is_told (ends.OutputFull used asked size) = true

told_of : (kind : ℕ) (w : Words) (e : RunEnd) → kind ≤ 6 → end_of kind w ≡ Some e → IsTrue (is_told e)
told_of zero w e le is = absurd (cc)
told_of (suc zero) w e le is = ap is_told (sym (some_is _ e is))
told_of (suc (suc zero)) w e le is = ap is_told (sym (some_is _ e is))
told_of (suc (suc (suc zero))) w e le is = ap is_told (sym (some_is _ e is))
told_of (suc (suc (suc (suc zero)))) w e le is = ap is_told (sym (some_is _ e is))
told_of (suc (suc (suc (suc (suc zero))))) w e le is = ap is_told (sym (some_is _ e is))
told_of (suc (suc (suc (suc (suc (suc zero)))))) w e le is = ap is_told (sym (some_is _ e is))
told_of (suc (suc (suc (suc (suc (suc (suc k))))))) w e le is = absurd (omega (arith, le))

-- an end that no words tell shows that the end word is 0
running : (budget : ℕ) (w : Words) (hs : List Hart) → w END_WORD ≤ 6 → IsFalse (is_told (ending budget w hs)) → w END_WORD ≡ 0
running budget w hs le f = by (end w) refl
  where
    apart : (b : Bool) → IsTrue b → IsFalse b → ⊥
    apart true t g = cc
    apart false t g = cc

    differ : (e : RunEnd) → None ≡ Some e → ⊥
    differ e h = cc

    zero_or : end w ≡ None → Dec (w END_WORD ≡ 0) → w END_WORD ≡ 0
    zero_or none (yes e) = e
    zero_or none (no other) = let told = end-over w other le in absurd (differ told.0 (sym none ∙ told.1))

    by : (o : Option RunEnd) → end w ≡ o → w END_WORD ≡ 0
    by None e = zero_or e (ℕ_discrete (w END_WORD) 0)
    by (Some told) e = absurd (apart (is_told told) (told_of (w END_WORD) w told le e) (subst (λ o. IsFalse (is_told (end_or (unfinished budget 0 hs) o))) e f))

-- where the end word is 0, the harts tell the end
untold : (budget : ℕ) (w : Words) (hs : List Hart) → w END_WORD ≡ 0 → ending budget w hs ≡ unfinished budget 0 hs
untold budget w hs e = ap (end_or (unfinished budget 0 hs)) (end-running w e)

-- no words that tell a sound end, and no harts, tell a broken promise
pub ending_kept : (budget : ℕ) (w : Words) (hs : List Hart) → w END_WORD ≤ 6 → ending budget w hs ≢ ends.Broken
ending_kept budget w hs le e = by (end w) refl e
  where
    apart : IsTrue false → ⊥
    apart t = cc

    unfinished_kept : (i : ℕ) (l : List Hart) → unfinished budget i l ≡ ends.Broken → ⊥
    unfinished_kept i [] f = cc
    unfinished_kept i (h ∷ l) f = by_spent (is_spent budget h) f (unfinished_kept (suc i) l)
      where
        by_spent : (b : Bool) → (if b then ends.BudgetSpent i budget else unfinished budget (suc i) l) ≡ ends.Broken → (unfinished budget (suc i) l ≡ ends.Broken → ⊥) → ⊥
        by_spent true f rest = cc
        by_spent false f rest = rest f

    by : (o : Option RunEnd) → end w ≡ o → end_or (unfinished budget 0 hs) o ≡ ends.Broken → ⊥
    by None at f = unfinished_kept 0 hs f
    by (Some told) at f = apart (subst (λ x. IsTrue (is_told x)) f (told_of (w END_WORD) w told le at))

-- no hart has spent the budget
abbrev pub AreUnspent : ℕ → List Hart → Type 0
AreUnspent budget hs = (k : ℕ) (x : Hart) → slice_get hs k ≡ Some x → x.retired ≢ budget

-- the first hart that has spent the budget, counted from i
record IsFirstSpent (budget i : ℕ) (hs : List Hart) (hart count : ℕ) : Type 0 where
  pub k : ℕ
  pub place : hart ≡ i + k
  pub all : count ≡ budget
  pub one : Hart
  pub there : slice_get hs k ≡ Some one
  pub spent : one.retired ≡ budget
  pub first : (j : ℕ) (x : Hart) → j < k → slice_get hs j ≡ Some x → x.retired ≢ budget

hart_of_end : RunEnd → ℕ
hart_of_end (ends.BudgetSpent hart count) = hart
hart_of_end ends.Deadlock = 0
hart_of_end ends.Broken = 0
hart_of_end (ends.Exited status) = 0
hart_of_end (ends.Uncaught text) = 0
hart_of_end (ends.HeapFull used asked size) = 0
hart_of_end (ends.StackFull need size) = 0
hart_of_end (ends.CallsFull active) = 0
hart_of_end (ends.OutputFull used asked size) = 0

count_of_end : RunEnd → ℕ
count_of_end (ends.BudgetSpent hart count) = count
count_of_end ends.Deadlock = 0
count_of_end ends.Broken = 0
count_of_end (ends.Exited status) = 0
count_of_end (ends.Uncaught text) = 0
count_of_end (ends.HeapFull used asked size) = 0
count_of_end (ends.StackFull need size) = 0
count_of_end (ends.CallsFull active) = 0
count_of_end (ends.OutputFull used asked size) = 0

spent_only : (budget i : ℕ) (hs : List Hart) (hart count : ℕ) → unfinished budget i hs ≡ ends.BudgetSpent hart count → IsFirstSpent budget i hs hart count
unfolding hart_of_end count_of_end
spent_only budget i [] hart count e = absurd (cc)
spent_only budget i (h ∷ hs) hart count e = by (is_spent budget h) refl e (spent_only budget (suc i) hs hart count)
  where
    before : (r : IsFirstSpent budget (suc i) hs hart count) → is_spent budget h ≡ false → (j : ℕ) (x : Hart) → j < suc r.k → slice_get (h ∷ hs) j ≡ Some x → x.retired ≢ budget
    before r t zero x lt at = eqb-false x.retired budget (ap (is_spent budget) (sym (some_is h x at)) ∙ t)
    before r t (suc j) x lt at = r.first j x (omega (arith, lt)) at

    by : (b : Bool) → is_spent budget h ≡ b → (if b then ends.BudgetSpent i budget else unfinished budget (suc i) hs) ≡ ends.BudgetSpent hart count → (unfinished budget (suc i) hs ≡ ends.BudgetSpent hart count → IsFirstSpent budget (suc i) hs hart count) → IsFirstSpent budget i (h ∷ hs) hart count
    by true t f rest = record {
      k = 0;
      place = let p : i ≡ hart = ap hart_of_end f in omega (arith, p);
      all = sym (ap count_of_end f);
      one = h;
      there = refl;
      spent = eqb-true h.retired budget t;
      first = λ j x lt at. absurd (omega (arith, lt));
    }
    by false t f rest = let r = rest f in record {
      k = suc r.k;
      place = let p = r.place in omega (arith, p);
      all = r.all;
      one = r.one;
      there = r.there;
      spent = r.spent;
      first = before r t;
    }

first_spent : (budget i : ℕ) (hs : List Hart) (k : ℕ) (h : Hart) → slice_get hs k ≡ Some h → h.retired ≡ budget → ((j : ℕ) (x : Hart) → j < k → slice_get hs j ≡ Some x → x.retired ≢ budget) → unfinished budget i hs ≡ ends.BudgetSpent (i + k) budget
first_spent budget i [] k h at spent first = absurd (cc)
first_spent budget i (x ∷ hs) zero h at spent first =
    ap (λ b. if b then ends.BudgetSpent i budget else unfinished budget (suc i) hs) (eq-eqb x.retired budget (ap (λ (y : Hart). y.retired) (some_is x h at) ∙ spent))
    ∙ ap (λ n. ends.BudgetSpent n budget) (let e : i ≡ i + 0 = omega arith in e)
first_spent budget i (x ∷ hs) (suc k) h at spent first =
    ap (λ b. if b then ends.BudgetSpent i budget else unfinished budget (suc i) hs) (ne_eqb x.retired budget (first 0 x (omega arith) refl))
    ∙ first_spent budget (suc i) hs k h at spent (λ j y lt. first (suc j) y (omega (arith, lt)))
    ∙ ap (λ n. ends.BudgetSpent n budget) (let e : suc i + k ≡ i + suc k = omega arith in e)

unspent_deadlock : (budget i : ℕ) (hs : List Hart) → AreUnspent budget hs → unfinished budget i hs ≡ ends.Deadlock
unspent_deadlock budget i [] none = refl
unspent_deadlock budget i (h ∷ hs) none =
    ap (λ b. if b then ends.BudgetSpent i budget else unfinished budget (suc i) hs) (ne_eqb h.retired budget (none 0 h refl))
    ∙ unspent_deadlock budget (suc i) hs (λ k. none (suc k))

deadlock_unspent : (budget i : ℕ) (hs : List Hart) → unfinished budget i hs ≡ ends.Deadlock → AreUnspent budget hs
deadlock_unspent budget i [] e k x at = absurd (cc)
deadlock_unspent budget i (h ∷ hs) e k x at = by (is_spent budget h) refl e (deadlock_unspent budget (suc i) hs) k at
  where
    by : (b : Bool) → is_spent budget h ≡ b → (if b then ends.BudgetSpent i budget else unfinished budget (suc i) hs) ≡ ends.Deadlock → (unfinished budget (suc i) hs ≡ ends.Deadlock → AreUnspent budget hs) → (j : ℕ) → slice_get (h ∷ hs) j ≡ Some x → x.retired ≢ budget
    by true t f rest j here = absurd (cc)
    by false t f rest zero here = eqb-false x.retired budget (ap (is_spent budget) (sym (some_is h x here)) ∙ t)
    by false t f rest (suc j) here = rest f j x here

none_any : (budget : ℕ) (hs : List Hart) → AreUnspent budget hs → list_any (is_spent budget) hs ≡ false
none_any budget [] none = refl
none_any budget (h ∷ hs) none = ap (λ b. b || list_any (is_spent budget) hs) (ne_eqb h.retired budget (none 0 h refl)) ∙ none_any budget hs (λ k. none (suc k))

-- with the end word 0 and no spent budget a run isn't over
pub going_on : (image : Image) (words : List ℕ) (harts : List Hart) → words_of words END_WORD ≡ 0 → AreUnspent image.settings.budget harts → is_over image (machine_of harts words) ≡ false
going_on image words harts run unspent =
    ap (λ n. not (n == 0) || list_any (λ (x : SeenHart). x.retired == image.settings.budget) (map hart_of harts)) run
    ∙ sym (any_seen image.settings.budget harts)
    ∙ none_any image.settings.budget harts unspent

-- a run that rests with no end and no spent budget rests since no hart has a step
none_goes : (image : Image) (words : List ℕ) (harts : List Hart) → words_of words END_WORD ≡ 0 → AreUnspent image.settings.budget harts → IsAtRest image (machine_of harts words) → (i : ℕ) (h : Hart) → slice_get harts i ≡ Some h → IsFalse (goes (move_of image (words_of words) (hart_of h)))
none_goes image words harts run unspent (inr none) i h at = none i (hart_of h) (map_get hart_of harts i h at)
none_goes image words harts run unspent (inl over) i h at = absurd (apart (is_over image (machine_of harts words)) over (going_on image words harts run unspent))
  where
    apart : (b : Bool) → IsTrue b → b ≡ false → ⊥
    apart true t g = cc
    apart false t g = cc

module _ (image : Image) (turns : ℕ) (words : List ℕ) (harts : List Hart) (kind : words_of words END_WORD ≤ 6) (serial : Serial image turns words harts) where
  pub budget_spent : (e : RunEnd) → e ≡ ending image.settings.budget (words_of words) harts → (hart count : ℕ) → e ≡ ends.BudgetSpent hart count ↔ ((count ≡ image.settings.budget) × IsBudgetSpent image words harts hart)
  budget_spent e is hart count = (forward, backward)
    where
      forward : e ≡ ends.BudgetSpent hart count → (count ≡ image.settings.budget) × IsBudgetSpent image words harts hart
      forward x =
          let so = sym is ∙ x in
          let run = running image.settings.budget (words_of words) harts kind (ap is_told so) in
          let r = spent_only image.settings.budget 0 harts hart count (sym (untold image.settings.budget (words_of words) harts run) ∙ so) in
          let place : r.k ≡ hart = (let p = r.place in omega (arith, p)) in
          (r.all, subst (IsBudgetSpent image words harts) place (record { running = run; hart = r.one; there = r.there; spent = r.spent; first = r.first }))

      backward : (count ≡ image.settings.budget) × IsBudgetSpent image words harts hart → e ≡ ends.BudgetSpent hart count
      backward x =
          let s = x.1 in
          is ∙ untold image.settings.budget (words_of words) harts s.running
          ∙ first_spent image.settings.budget 0 harts hart s.hart s.there s.spent s.first
          ∙ ap (λ n. ends.BudgetSpent n image.settings.budget) (let p : 0 + hart ≡ hart = omega arith in p)
          ∙ ap (ends.BudgetSpent hart) (sym x.0)

  pub deadlock : (e : RunEnd) → e ≡ ending image.settings.budget (words_of words) harts → e ≡ ends.Deadlock ↔ IsDeadlocked image words harts
  deadlock e is = (forward, backward)
    where
      forward : e ≡ ends.Deadlock → IsDeadlocked image words harts
      forward x =
          let so = sym is ∙ x in
          let run = running image.settings.budget (words_of words) harts kind (ap is_told so) in
          let unspent = deadlock_unspent image.settings.budget 0 harts (sym (untold image.settings.budget (words_of words) harts run) ∙ so) in
          record { running = run; unspent = unspent; none = none_goes image words harts run unspent serial.3 }

      backward : IsDeadlocked image words harts → e ≡ ends.Deadlock
      backward s = is ∙ untold image.settings.budget (words_of words) harts s.running ∙ unspent_deadlock image.settings.budget 0 harts s.unspent
