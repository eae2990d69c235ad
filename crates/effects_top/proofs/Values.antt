-- Words of integers in registers: constants, sums, differences and products.
use Rattle.std.proofs.Common.{◌≡◌, ◌≢◌, ℕ, ◌+◌, ◌-◌, ◌*◌, ◌/◌, ◌%◌, ◌^◌, ◌<◌, Some, Bool, true, false, refl, ap, ◌∙◌, arith}
use Rattle.std.specs.Prelude.{◌==◌, if◌then◌else◌}
use Rattle.std.proofs.lemmas.Bool.{eqb-true, eq-eqb}
use Rattle.rv_model.specs.Word.{wrap}
use Rattle.rv_model.specs.Machine.{Regs, Words, set_word}
use Rattle.effects_top.specs.declared.reader.Arith.{Arith}
use Rattle.effects_top.specs.declared.reader.Arith.TheVariants.{Plus, Minus, Times}
use Rattle.effects_top.specs.Compiled.{constant_code, arith_code}
use Rattle.rv_model.specs.Block.{block}
use Rattle.effects_top.proofs.Blocks.{}
use Rattle.effects_top.proofs.Integers.{on_bits}

next_bits : (v x : ℕ) → x ≡ v / 2048 → v < 2 ^ 64 → wrap (wrap (x * 2 ^ 11) + wrap (v % 2048)) ≡ v
next_bits v x e h = omega arith

first_bits : (v : ℕ) → v < 2048 → wrap (0 + wrap (v % 2048)) ≡ v
first_bits v h = omega arith

-- what the code of a constant leaves
abbrev pub Loaded : ℕ → Regs → Type 0
Loaded v r = (r' : Regs) × (block (constant_code v) r ≡ Some r') × (r' 10 ≡ v) × (r' 2 ≡ r 2) × (r' 17 ≡ r 17)

pub constant_value : (v : ℕ) (r : Regs) → v < 2 ^ 64 → Loaded v r
constant_value v r h =
    let v1 = v / 2048 in let v2 = v1 / 2048 in let v3 = v2 / 2048 in let v4 = v3 / 2048 in let v5 = v4 / 2048 in
    let e5 : wrap (0 + wrap (v5 % 2048)) ≡ v5 = first_bits v5 (omega arith) in
    let e4 = next_bits v4 _ e5 (omega arith) in
    let e3 = next_bits v3 _ e4 (omega arith) in
    let e2 = next_bits v2 _ e3 (omega arith) in
    let e1 = next_bits v1 _ e2 (omega arith) in
    (_, refl, next_bits v _ e1 h, refl, refl)

plus_word : (a b : ℕ) → a < 2 ^ 63 → b < 2 ^ 63 → wrap (wrap ((2 * a + 1) + (2 * b + 1)) + (2 ^ 64 - 1)) ≡ 2 * on_bits Plus a b + 1
plus_word a b ha hb = omega arith

minus_word : (a b : ℕ) → a < 2 ^ 63 → b < 2 ^ 63 → wrap (wrap ((2 * a + 1) + (2 ^ 64 - (2 * b + 1))) + 1) ≡ 2 * on_bits Minus a b + 1
minus_word a b ha hb = omega arith

times_word : (a b : ℕ) → a < 2 ^ 63 → b < 2 ^ 63 → wrap (wrap (wrap ((2 * a + 1) + (2 ^ 64 - 1)) * ((2 * b + 1) / 2)) + 1) ≡ 2 * on_bits Times a b + 1
times_word a b ha hb =
    let e1 : wrap ((2 * a + 1) + (2 ^ 64 - 1)) ≡ 2 * a = omega arith in
    let e2 : (2 * b + 1) / 2 ≡ b = omega arith in
    let e3 : wrap (wrap (2 * a * b) + 1) ≡ 2 * on_bits Times a b + 1 = omega arith in
    ap (λ x. wrap (wrap (x * ((2 * b + 1) / 2)) + 1)) e1 ∙ ap (λ x. wrap (wrap (2 * a * x) + 1)) e2 ∙ e3

-- what the code of an operation leaves
abbrev pub Computed : Arith → ℕ → ℕ → Regs → Type 0
Computed operation a b r = (r' : Regs) × (block (arith_code operation) r ≡ Some r') × (r' 10 ≡ 2 * on_bits operation a b + 1) × (r' 2 ≡ r 2) × (r' 17 ≡ r 17)

pub arith_value : (operation : Arith) (a b : ℕ) (r : Regs) → a < 2 ^ 63 → b < 2 ^ 63 → r 10 ≡ 2 * a + 1 → r 11 ≡ 2 * b + 1 → Computed operation a b r
arith_value Plus a b r ha hb ea eb = (_, refl, ap (λ x. wrap (wrap (x + r 11) + (2 ^ 64 - 1))) ea ∙ ap (λ x. wrap (wrap ((2 * a + 1) + x) + (2 ^ 64 - 1))) eb ∙ plus_word a b ha hb, refl, refl)
arith_value Minus a b r ha hb ea eb = (_, refl, ap (λ x. wrap (wrap (x + (2 ^ 64 - r 11)) + 1)) ea ∙ ap (λ x. wrap (wrap ((2 * a + 1) + (2 ^ 64 - x)) + 1)) eb ∙ minus_word a b ha hb, refl, refl)
arith_value Times a b r ha hb ea eb = (_, refl, ap (λ x. wrap (wrap (wrap (x + (2 ^ 64 - 1)) * (r 11 / 2)) + 1)) ea ∙ ap (λ x. wrap (wrap (wrap ((2 * a + 1) + (2 ^ 64 - 1)) * (x / 2)) + 1)) eb ∙ times_word a b ha hb, refl, refl)

-- a word that wasn't written, and one that was
pub word_other : (w : Words) (p v k : ℕ) → k ≢ p → set_word w p v k ≡ w k
word_other w p v k ne = by (k == p) refl
  where
    by : (b : Bool) → (k == p) ≡ b → (if b then v else w k) ≡ w k
    by true e = absurd (ne (eqb-true k p e))
    by false e = refl

pub word_here : (w : Words) (p v : ℕ) → set_word w p v p ≡ v
word_here w p v = ap (λ (b : Bool). if b then v else w p) (eq-eqb p p refl)

-- the words below a place are the same
abbrev pub IsSame : ℕ → Words → Words → Type 0
IsSame p w w' = (k : ℕ) → k < p → w' k ≡ w k

pub same_set : (w : Words) (p v : ℕ) → IsSame p w (set_word w p v)
same_set w p v k h = word_other w p v k (omega arith)
