-- The digits that the code makes, in three registers.
use Rattle.std.proofs.Common.{◌≡◌, ◌≢◌, ℕ, zero, suc, ◌+◌, ◌-◌, ◌*◌, ◌/◌, ◌%◌, ◌^◌, ◌<◌, ◌≤◌, List, [], ◌∷◌, Some, Bool, true, false, refl, sym, ap, ◌∙◌, subst, arith, pos}
use Rattle.std.specs.Prelude.{◌==◌, if◌then◌else◌}
use Rattle.std.proofs.lemmas.Bool.{eqb-true, eqb-false, lt-leb, lt-ltb}
use Rattle.rv_model.specs.declared.instr.Op.TheVariants.{Rem, Div, Addi}
use Rattle.rv_model.specs.declared.instr.Instr.{Instr}
use Rattle.rv_model.specs.Format.{plain}
use Rattle.rv_model.specs.Word.{wrap, quotient, remainder, negated}
use Rattle.rv_model.specs.Machine.{Regs}
use Rattle.effect_meaning.specs.Texts.{digits_onto}
use Rattle.effects_top.specs.Compiled.{prepend_code}
use Rattle.rv_model.specs.Block.{block}
use Rattle.effects_top.proofs.Blocks.{}

-- decimal digits in front of a text
unfoldable pub digits : ℕ → ℕ → List ℕ → List ℕ
digits most n text = digits_onto most n text

-- bytes of a number, the least first
unfoldable pub low_bytes : ℕ → ℕ → List ℕ
low_bytes zero x = []
low_bytes (suc n) x = x % 256 ∷ low_bytes n (x / 256)

pub low_bytes_before : (n x b : ℕ) → b < 256 → low_bytes (suc n) (x * 256 + b) ≡ b ∷ low_bytes n x
unfolding low_bytes
low_bytes_before n x b h =
    let e : (x * 256 + b) % 256 ≡ b = omega arith in
    let d : (x * 256 + b) / 256 ≡ x = omega arith in
    ap (λ y. y ∷ low_bytes n ((x * 256 + b) / 256)) e ∙ ap (λ y. b ∷ low_bytes n y) d

-- 256 to a power
unfoldable pub room : ℕ → ℕ
room zero = 1
room (suc n) = 256 * room n

pub room_more : (n k : ℕ) → room n ≤ room (k + n)
unfolding room
room_more n zero = let e : zero + n ≡ n = omega arith in subst (λ x. room n ≤ room x) (sym e) (omega arith)
room_more n (suc k) =
    let e : suc k + n ≡ suc (k + n) = omega arith in
    let ih = room_more n k in
    subst (λ x. room n ≤ room x) (sym e) (omega (arith, ih))

pub room_small : (n : ℕ) → n ≤ 21 → room n ≤ 2 ^ 168
unfolding room
room_small n h =
    let e : 21 - n + n ≡ 21 = omega arith in
    let a : room n ≤ room 21 = subst (λ x. room n ≤ room x) e (room_more n (21 - n)) in
    omega (arith, a)

-- a number and its length are in registers 6, 7, 8 and 11
pub record HasText (r : Regs) (x len : ℕ) : Type 0 where
  pub first : r 6 < 2 ^ 64
  pub second : r 7 < 2 ^ 64
  pub third : r 8 < 2 ^ 64
  pub whole : r 6 + 2 ^ 64 * r 7 + 2 ^ 128 * r 8 ≡ x
  pub count : r 11 ≡ len

shifted : (a b c x d : ℕ) → a < 2 ^ 64 → b < 2 ^ 64 → c < 2 ^ 64 → a + 2 ^ 64 * b + 2 ^ 128 * c ≡ x → x < 2 ^ 168 → d < 256 → wrap (wrap (a * 2 ^ 8) + d) + 2 ^ 64 * wrap (wrap (b * 2 ^ 8) + a / 2 ^ 56) + 2 ^ 128 * wrap (wrap (c * 2 ^ 8) + b / 2 ^ 56) ≡ x * 256 + d
shifted a b c x d ha hb hc e hx hd = omega arith

-- what stays beside the text
abbrev pub StaysBeside : Regs → Regs → Type 0
StaysBeside r r' = (r' 5 ≡ r 5) × (r' 9 ≡ r 9) × (r' 12 ≡ r 12) × (r' 17 ≡ r 17)

abbrev pub Prepends : Regs → ℕ → ℕ → ℕ → Type 0
Prepends r x len d = (r' : Regs) × (block prepend_code r ≡ Some r') × HasText r' (x * 256 + d) (len + 1) × StaysBeside r r'

pub prepend_block : (r : Regs) (x len d : ℕ) → HasText r x len → x < 2 ^ 168 → len < 100 → r 13 ≡ d → d < 256 → Prepends r x len d
prepend_block r x len d t hx hl e hd = (
  _,
  refl,
  record {
    first = omega arith;
    second = omega arith;
    third = omega arith;
    whole = ap (λ y. wrap (wrap (r 6 * 2 ^ 8) + y) + 2 ^ 64 * wrap (wrap (r 7 * 2 ^ 8) + r 6 / 2 ^ 56) + 2 ^ 128 * wrap (wrap (r 8 * 2 ^ 8) + r 7 / 2 ^ 56)) e ∙ shifted (r 6) (r 7) (r 8) x d t.first t.second t.third t.whole hx hd;
    count = let k = t.count in omega arith;
  },
  (refl, refl, refl, refl),
)

abbrev pub divide_code : List Instr
divide_code = plain Rem 13 5 12 (pos 0) ∷ plain Div 5 5 12 (pos 0) ∷ plain Addi 13 13 0 (pos 48) ∷ []

remainder_ten : (x : ℕ) → x < 2 ^ 63 → remainder x 10 ≡ x % 10
remainder_ten x h = ap (λ (b : Bool). if b then negated (negated x % 10) else x % 10) (lt-leb (2 ^ 63) x h)

quotient_ten : (x : ℕ) → x < 2 ^ 63 → quotient x 10 ≡ x / 10
quotient_ten x h = ap (λ (b : Bool). if b then negated (negated x / 10) else x / 10) (lt-leb (2 ^ 63) x h)

abbrev pub Divides : Regs → ℕ → ℕ → ℕ → Type 0
Divides r x y len = (r' : Regs) × (block divide_code r ≡ Some r') × (r' 5 ≡ x / 10) × (r' 13 ≡ 48 + x % 10) × (r' 12 ≡ 10) × (r' 9 ≡ r 9) × (r' 17 ≡ r 17) × HasText r' y len

pub divide_block : (r : Regs) (x y len : ℕ) → r 5 ≡ x → x < 2 ^ 63 → r 12 ≡ 10 → HasText r y len → Divides r x y len
divide_block r x y len e h e12 t =
    let q : quotient (r 5) (r 12) ≡ x / 10 = ap (λ z. quotient z (r 12)) e ∙ ap (λ z. quotient x z) e12 ∙ quotient_ten x h in
    let m : remainder (r 5) (r 12) ≡ x % 10 = ap (λ z. remainder z (r 12)) e ∙ ap (λ z. remainder x z) e12 ∙ remainder_ten x h in
    let d : wrap (x % 10 + 48) ≡ 48 + x % 10 = omega arith in
    (_, refl, q, ap (λ z. wrap (z + 48)) m ∙ d, e12, refl, refl, record { first = t.first; second = t.second; third = t.third; whole = t.whole; count = t.count })

-- the last digit, or another one
pub digits_last : (f x : ℕ) (after : List ℕ) → (x / 10 == 0) ≡ true → digits (suc f) x after ≡ (48 + x % 10) ∷ after
unfolding digits
digits_last f x after e =
    let z = eqb-true (x / 10) 0 e in
    ap (λ (b : Bool). if b then (48 + x % 10) ∷ after else digits_onto f (x / 10) ((48 + x % 10) ∷ after)) (lt-ltb x 10 (omega (arith, z)))

pub digits_more : (f x : ℕ) (after : List ℕ) → (x / 10 == 0) ≡ false → digits (suc f) x after ≡ digits f (x / 10) ((48 + x % 10) ∷ after)
unfolding digits
digits_more f x after e =
    let z = eqb-false (x / 10) 0 e in
    let le : 10 ≤ x = by_parts x z in
    ap (λ (b : Bool). if b then (48 + x % 10) ∷ after else digits_onto f (x / 10) ((48 + x % 10) ∷ after)) (lt-leb (suc x) 10 (omega (arith, le)))
  where
    by_parts : (x : ℕ) → x / 10 ≢ 0 → 10 ≤ x
    by_parts x z = omega (arith, z)
