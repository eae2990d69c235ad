-- The 63 bits of sums, differences and products of integers, and the words of integers.
use Rattle.std.proofs.Common.{◌≡◌, ℕ, suc, ◌+◌, ◌-◌, ◌*◌, ◌/◌, ◌%◌, ◌^◌, ◌<◌, ◌≤◌, ℤ, pos, negsuc, neg_ℤ, ◌+ℤ◌, ◌-ℤ◌, ◌*ℤ◌, Bool, refl, sym, ap, ◌∙◌, arith, ⊎_elim}
use Rattle.std.specs.Prelude.{if◌then◌else◌}
use Rattle.std.proofs.lemmas.Nat.{mul-mod}
use Rattle.std.proofs.lemmas.Int.{ints}
use Rattle.std.proofs.lemmas.Bool.{lt-ltb, lt-leb, cases_lt}
use Rattle.effect_meaning.specs.Numbers.{bits, of_bits}
use Rattle.effects_top.specs.declared.reader.Arith.{Arith}
use Rattle.effects_top.specs.declared.reader.Arith.TheVariants.{Plus, Minus, Times}

-- an operation on 63 bits
abbrev pub on_bits : Arith → ℕ → ℕ → ℕ
on_bits Plus a b = (a + b) % 2 ^ 63
on_bits Minus a b = (a + (2 ^ 63 - b)) % 2 ^ 63
on_bits Times a b = (a * b) % 2 ^ 63

-- an operation on integers
abbrev pub on_integers : Arith → ℤ → ℤ → ℤ
on_integers Plus a b = a +ℤ b
on_integers Minus a b = a -ℤ b
on_integers Times a b = a *ℤ b

pub on_bits_small : (operation : Arith) (a b : ℕ) → on_bits operation a b < 2 ^ 63
on_bits_small Plus a b = omega arith
on_bits_small Minus a b = omega arith
on_bits_small Times a b = omega arith

pub bits_small : (z : ℤ) → bits z < 2 ^ 63
bits_small (pos n) = omega arith
bits_small (negsuc n) = omega arith

-- an integer that is n but for a multiple of 2 ^ 63 has the bits of n
bits_is : (z : ℤ) (n k : ℕ) → z +ℤ pos (k * 2 ^ 63) ≡ pos n → bits z ≡ n % 2 ^ 63
bits_is (pos a) n k e =
    let f : a + k * 2 ^ 63 ≡ n = omega (arith, ints, e) in
    omega (arith, f)
bits_is (negsuc a) n k e =
    let f : k * 2 ^ 63 ≡ n + suc a = omega (arith, ints, e) in
    omega (arith, f)

-- an integer by its bits
record Split (z : ℤ) : Type 0 where
  up : ℕ
  down : ℕ
  is : z +ℤ pos (up * 2 ^ 63) ≡ pos (bits z + down * 2 ^ 63)

split : (z : ℤ) → Split z
split (pos n) = record { up = 0; down = n / 2 ^ 63; is = let e : n + 0 * 2 ^ 63 ≡ n % 2 ^ 63 + n / 2 ^ 63 * 2 ^ 63 = omega arith in omega (arith, ints, e) }
split (negsuc n) = record { up = n / 2 ^ 63 + 1; down = 0; is = let e : (n / 2 ^ 63 + 1) * 2 ^ 63 ≡ (2 ^ 63 - 1 - n % 2 ^ 63) + 0 * 2 ^ 63 + suc n = omega arith in omega (arith, ints, e) }

bits_sum : (a b : ℤ) → bits (a +ℤ b) ≡ (bits a + bits b) % 2 ^ 63
bits_sum a b =
    let x = split a in
    let y = split b in
    let p = x.is in
    let q = y.is in
    let e : (a +ℤ b) +ℤ pos ((x.up + y.up) * 2 ^ 63) ≡ pos (bits a + bits b + (x.down + y.down) * 2 ^ 63) = omega (arith, ints, p, q) in
    bits_is (a +ℤ b) _ _ e ∙ omega arith

bits_difference : (a b : ℤ) → bits (a -ℤ b) ≡ (bits a + (2 ^ 63 - bits b)) % 2 ^ 63
bits_difference a b =
    let x = split a in
    let y = split b in
    let p = x.is in
    let q = y.is in
    let l = bits_small b in
    let e : (a -ℤ b) +ℤ pos ((x.up + y.down + 1) * 2 ^ 63) ≡ pos (bits a + (2 ^ 63 - bits b) + (x.down + y.up) * 2 ^ 63) = omega (arith, ints, p, q, l) in
    bits_is (a -ℤ b) _ _ e ∙ omega arith

-- a natural number with the bits of an integer
abbrev of_same : ℤ → ℕ
of_same (pos n) = n
of_same (negsuc n) = suc n * (2 ^ 63 - 1)

same_bits : (z : ℤ) → bits z ≡ of_same z % 2 ^ 63
same_bits (pos n) = refl
same_bits (negsuc n) = omega arith

product_same : (a b : ℤ) → bits (a *ℤ b) ≡ (of_same a * of_same b) % 2 ^ 63
product_same (pos m) (pos n) = bits_is (pos m *ℤ pos n) (m * n) 0 (omega (arith, ints))
product_same (pos m) (negsuc n) =
    let e : (pos m *ℤ negsuc n) +ℤ pos (m * suc n * 2 ^ 63) ≡ pos (m * (suc n * (2 ^ 63 - 1))) = omega (arith, ints) in
    bits_is (pos m *ℤ negsuc n) _ (m * suc n) e
product_same (negsuc m) (pos n) =
    let e : (negsuc m *ℤ pos n) +ℤ pos (suc m * n * 2 ^ 63) ≡ pos (suc m * (2 ^ 63 - 1) * n) = omega (arith, ints) in
    bits_is (negsuc m *ℤ pos n) _ (suc m * n) e
product_same (negsuc m) (negsuc n) =
    let e : (negsuc m *ℤ negsuc n) +ℤ pos (suc m * suc n * (2 ^ 63 - 2) * 2 ^ 63) ≡ pos (suc m * (2 ^ 63 - 1) * (suc n * (2 ^ 63 - 1))) = omega (arith, ints) in
    bits_is (negsuc m *ℤ negsuc n) _ (suc m * suc n * (2 ^ 63 - 2)) e

bits_product : (a b : ℤ) → bits (a *ℤ b) ≡ (bits a * bits b) % 2 ^ 63
bits_product a b =
    product_same a b
    ∙ mul-mod (of_same a) (of_same b) (2 ^ 63)
    ∙ sym (ap (λ x. (x * bits b) % 2 ^ 63) (same_bits a) ∙ ap (λ x. (of_same a % 2 ^ 63 * x) % 2 ^ 63) (same_bits b))

-- the bits of an operation's result are those of the operation on the bits
pub bits_done : (operation : Arith) (a b : ℤ) → bits (on_integers operation a b) ≡ on_bits operation (bits a) (bits b)
bits_done Plus a b = bits_sum a b
bits_done Minus a b = bits_difference a b
bits_done Times a b = bits_product a b

-- the integer of some bits has these bits
pub bits_of_bits : (n : ℕ) → n < 2 ^ 63 → bits (of_bits n) ≡ n
bits_of_bits n h = ⊎_elim low high (cases_lt n (2 ^ 62))
  where
    low : n < 2 ^ 62 → bits (of_bits n) ≡ n
    low l =
        let e : n % 2 ^ 63 ≡ n = omega arith in
        ap (λ (b : Bool). bits (if b then pos n else neg_ℤ (pos (2 ^ 63 - n)))) (lt-ltb n (2 ^ 62) l) ∙ e

    high : 2 ^ 62 ≤ n → bits (of_bits n) ≡ n
    high l =
        let s : 2 ^ 63 - n ≡ suc (2 ^ 63 - n - 1) = omega arith in
        let e : 2 ^ 63 - 1 - (2 ^ 63 - n - 1) % 2 ^ 63 ≡ n = omega arith in
        ap (λ (b : Bool). bits (if b then pos n else neg_ℤ (pos (2 ^ 63 - n)))) (lt-leb (suc n) (2 ^ 62) (omega (arith, l))) ∙ ap (λ k. bits (neg_ℤ (pos k))) s ∙ e
