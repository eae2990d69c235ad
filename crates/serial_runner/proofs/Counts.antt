-- Retired instructions and the budget.
use Rattle.std.proofs.Common.{◌≡◌, ◌≢◌, ℕ, zero, suc, ◌+◌, ◌*◌, ◌<◌, ◌≤◌, List, [], ◌∷◌, length, map, Some, Bool, true, false, ◌||◌, refl, sym, ap, ◌∙◌, subst, arith}
use native.Mathlib.Decide.{ℕ_discrete}
use Rattle.std.specs.Prelude.{slice_get, slice_set, slice_index_or, ◌==◌, ◌-◌, min, IsFalse}
use Rattle.std.specs.List.{list_any}
use Rattle.std.proofs.lemmas.Bool.{ne_eqb}
use Rattle.std.proofs.lemmas.Option.{slice_get-get_or}
use Rattle.rv_model.specs.declared.hart.Hart.{Hart as HartState}
use Rattle.rv_model.specs.declared.image.Image.{Image}
use Rattle.rv_model.specs.Machine.{Hart, hart_of}
use Rattle.rv_model.specs.Run.{machine_of}
use Rattle.rv_model.specs.Serial.{is_over}
use Rattle.rv_model.proofs.Lists.{get_set_same, get_set_other, map_get, map_set}
use Rattle.rv_model.proofs.InTurns.{none_spent}
use Rattle.serial_runner.specs.Turns.{total, retired_at, has_ended, is_over_by, AreWithin, IsReady, is_spent}

some_is : (x y : HartState) → Some x ≡ Some y → x ≡ y
some_is x y e = cc

-- the harts as the definitions see them
pub any_seen : (budget : ℕ) (l : List HartState) → list_any (is_spent budget) l ≡ list_any (λ (h : Hart). h.retired == budget) (map hart_of l)
any_seen budget [] = refl
any_seen budget (h ∷ l) = ap (λ b. (h.retired == budget) || b) (any_seen budget l)

-- one hart's new state, within the budget
pub within_set : (budget : ℕ) (l : List HartState) (i : ℕ) (h h' : HartState) → slice_get l i ≡ Some h → AreWithin budget l → h'.retired ≤ budget → AreWithin budget (slice_set l i h')
within_set budget l i h h' at within le k x e = by (ℕ_discrete k i)
  where
    by : Dec (k ≡ i) → x.retired ≤ budget
    by (yes same) = subst (λ (y : HartState). y.retired ≤ budget) (some_is h' x (sym (get_set_same l i h h' at) ∙ ap (slice_get (slice_set l i h')) (sym same) ∙ e)) le
    by (no other) = within k x (sym (get_set_other l i k h' other) ∙ e)

pub total_set : (l : List HartState) (i : ℕ) (h h' : HartState) → slice_get l i ≡ Some h → total (slice_set l i h') + h.retired ≡ total l + h'.retired
total_set [] i h h' at = absurd (cc)
total_set (x ∷ l) zero h h' at = let e : x.retired ≡ h.retired = ap (λ (y : HartState). y.retired) (some_is x h at) in omega (arith, e)
total_set (x ∷ l) (suc i) h h' at = let e = total_set l i h h' at in omega (arith, e)

pub total_within : (budget : ℕ) (l : List HartState) → AreWithin budget l → total l ≤ length l * budget
total_within budget [] within = omega arith
total_within budget (h ∷ l) within =
    let first : h.retired ≤ budget = within 0 h refl in
    let rest : total l ≤ length l * budget = total_within budget l (λ k. within (suc k)) in
    let product : (1 + length l) * budget ≡ budget + length l * budget = omega arith in
    omega (arith, first, rest, product)

right : (a b : Bool) → (a || b) ≡ false → b ≡ false
right true b f = absurd (cc)
right false b f = f

-- a hart of a run that isn't over is below the budget
pub below_budget : (image : Image) (hs : List HartState) (ws : List ℕ) (i : ℕ) (h : HartState) → IsReady image hs ws → IsFalse (is_over image (machine_of hs ws)) → slice_get hs i ≡ Some h → h.retired < image.settings.budget
below_budget image hs ws i h ready running at =
    let spent = list_any (λ (x : Hart). x.retired == image.settings.budget) (map hart_of hs) in
    let none : spent ≡ false = right (has_ended ws) spent running in
    let le : h.retired ≤ image.settings.budget = ready.within i h at in
    let ne : h.retired ≢ image.settings.budget = none_spent image.settings.budget (map hart_of hs) i (hart_of h) none (map_get hart_of hs i h at) in
    omega (arith, le, ne)

pub retired_get : (hs : List HartState) (i : ℕ) (h : HartState) → slice_get hs i ≡ Some h → retired_at i hs ≡ h.retired
retired_get [] i h at = absurd (cc)
retired_get (x ∷ hs) zero h at = ap (λ (y : HartState). y.retired) (some_is x h at)
retired_get (x ∷ hs) (suc i) h at = retired_get hs i h at

pub retired_set : (hs : List HartState) (i : ℕ) (h h' : HartState) → slice_get hs i ≡ Some h → retired_at i (slice_set hs i h') ≡ h'.retired
retired_set hs i h h' at = retired_get (slice_set hs i h') i h' (get_set_same hs i h h' at)

-- where no element passes a test, one that is put among them decides
any_set : {A : Type 0} (p : A → Bool) (l : List A) (i : ℕ) (a a' : A) → list_any p l ≡ false → slice_get l i ≡ Some a → list_any p (slice_set l i a') ≡ p a'
any_set p [] i a a' e at = absurd (cc)
any_set p (x ∷ l) zero a a' e at = ap (λ b. p a' || b) (right (p x) _ e) ∙ or_false (p a')
  where
    or_false : (b : Bool) → (b || false) ≡ b
    or_false true = refl
    or_false false = refl
any_set p (x ∷ l) (suc i) a a' e at = ap (λ b. b || list_any p (slice_set l i a')) (left (p x) _ e) ∙ any_set p l i a a' (right (p x) _ e) at
  where
    left : (a b : Bool) → (a || b) ≡ false → a ≡ false
    left true b f = f
    left false b f = refl

-- where the run wasn't over, an instruction of hart i ends it by the end word or by that hart's budget
pub over_by : (image : Image) (hs : List HartState) (ws ws' : List ℕ) (i : ℕ) (h h' : HartState) → IsFalse (is_over image (machine_of hs ws)) → slice_get hs i ≡ Some h → is_over image (machine_of (slice_set hs i h') ws') ≡ is_over_by image i (slice_set hs i h') ws'
over_by image hs ws ws' i h h' running at =
    let budget = image.settings.budget in
    ap (λ b. has_ended ws' || b) (
    ap (list_any (λ (x : Hart). x.retired == budget)) (map_set hart_of hs i h')
    ∙ any_set (λ (x : Hart). x.retired == budget) (map hart_of hs) i (hart_of h) (hart_of h') (right _ _ running) (map_get hart_of hs i h at)
    ∙ ap (λ n. n == budget) (sym (retired_set hs i h h' at))
    )

-- the hart at a place
pub hart_there : (hs : List HartState) (i : ℕ) (d : HartState) → i < length hs → retired_at i hs ≡ (slice_index_or hs i d).retired
hart_there hs i d lt = retired_get hs i (slice_index_or hs i d) (slice_get-get_or hs i d lt)

pub within_there : (image : Image) (hs : List HartState) (ws : List ℕ) (i : ℕ) (d : HartState) → IsReady image hs ws → i < length hs → retired_at i hs ≤ image.settings.budget
within_there image hs ws i d ready lt =
    let le = ready.within i (slice_index_or hs i d) (slice_get-get_or hs i d lt) in
    omega (arith, le, hart_there hs i d lt)

-- before the end of its turn a hart is below the budget
pub before_end : (budget turns start now begun done end : ℕ) → start ≡ begun → begun ≤ budget → end ≡ min (budget - start) turns → now ≡ begun + done → done < end → (now == budget) ≡ false
before_end budget turns start now begun done end e le is count lt = ne_eqb now budget (let low : now < budget = omega (arith, e, le, is, count, lt) in let differ : now ≢ budget = omega (arith, low) in differ)

pub within_turn : (budget turns start done end : ℕ) → end ≡ min (budget - start) turns → done < end → done < turns
within_turn budget turns start done end is lt = omega (arith, is, lt)

-- at the end of its turn it has had all instructions of the turn, where its budget isn't spent
pub at_end : (budget turns start now begun done end : ℕ) → start ≡ begun → now ≤ budget → end ≡ min (budget - start) turns → now ≡ begun + done → end ≤ done → now ≢ budget → turns ≤ done
at_end budget turns start now begun done end e le is count lt other = omega (arith, e, le, is, count, lt, other)
