-- The start of a run, and its end in other names.
use Rattle.std.proofs.Common.{◌≡◌, ℕ, zero, suc, ◌≤◌, List, [], ◌∷◌, ◌++◌, take, length, map, Some, refl, sym, ap, ◌∙◌, subst, arith}
use Rattle.rv_model.specs.declared.image.Image.{Image}
use Rattle.rv_model.specs.declared.hart.Hart.{Hart}
use Rattle.rv_model.specs.Machine.{hart_of, words_of}
use Rattle.rv_model.specs.Start.{first_hart, first_harts, start_words}
use Rattle.rv_model.specs.Run.{machine_of, first, Reaches}
use Rattle.rv_model.proofs.InTurns.{first_reaches}
use Rattle.serial_runner.specs.Turns.{IsReady, AreWithin}

first_count : (i n : ℕ) → length (first_harts i n) ≡ n
first_count i zero = refl
first_count i (suc n) = ap suc (first_count (suc i) n)

first_within : (budget i n : ℕ) → AreWithin budget (first_harts i n)
first_within budget i zero k h e = absurd (cc)
first_within budget i (suc n) zero h e = subst (λ (x : Hart). x.retired ≤ budget) (some_is (first_hart i) h e) (omega arith)
  where
    some_is : (x y : Hart) → Some x ≡ Some y → x ≡ y
    some_is x y s = cc
first_within budget i (suc n) (suc k) h e = first_within budget (suc i) n k h e

-- harts and words at the start
pub ready_first : (image : Image) (harts : List Hart) (words : List ℕ) → harts ≡ first_harts 0 image.settings.domains → length words ≡ image.size → IsReady image harts words
ready_first image harts words is size = record {
  size = size;
  count = ap length is ∙ first_count 0 image.settings.domains;
  within = subst (AreWithin image.settings.budget) (sym is) (first_within image.settings.budget 0 image.settings.domains);
}

pub start_first : (image : Image) (harts : List Hart) (words : List ℕ) → harts ≡ first_harts 0 image.settings.domains → words_of words ≡ start_words image.start → machine_of harts words ≡ first image
start_first image harts words is same = λ j. record { words = same j; harts = ap (λ (l : List Hart). map hart_of l) is j }

pub reach_first : (image : Image) (harts : List Hart) (words : List ℕ) → machine_of harts words ≡ first image → Reaches image (machine_of harts words)
reach_first image harts words is = subst (Reaches image) (sym is) (first_reaches image)

-- what holds of words and harts holds of the same under other names
pub same_at : (P : List ℕ → List Hart → Type 0) (words words' : List ℕ) (harts harts' : List Hart) → P words harts → words' ≡ words → harts' ≡ harts → P words' harts'
same_at P words words' harts harts' holds e f = subst (λ (p : List ℕ × List Hart). P p.0 p.1) (λ j. (sym e j, sym f j)) holds

-- the front of a list
pub front : (a b : List Hart) (n : ℕ) → length a ≡ n → take n (a ++ b) ≡ a
front [] b n e = ap (λ (m : ℕ). take m b) (sym e)
front (x ∷ a) b zero e = absurd (omega (arith, e))
front (x ∷ a) b (suc n) e = ap (λ (l : List Hart). x ∷ l) (front a b n (omega (arith, e)))
