use Rattle.std.proofs.Common.{◌≡◌, ℕ, suc, ◌+◌, ◌*◌, ◌<◌, ◌≤◌, Bool, true, false, List, [], ◌∷◌, length, drop, get_or, refl, sym, ◌∙◌, ap, arith}
use Rattle.std.specs.Prelude.{◌==◌, if◌then◌else◌, nat_le}
use Rattle.std.proofs.lemmas.Bool.{lt-leb, eq-eqb, eqb-true}
use Rattle.std.proofs.Math.Nat.{mul-le-mul_left}
use Rattle.std.proofs.Math.Seq.{drop-cons}
use Rattle.ml_lexer.specs.Values.{digit_value, digits_value}

-- more digits make no value less
pub digits_grow : (base value : ℕ) (bs : List ℕ) → 1 ≤ base → value ≤ digits_value base value bs
digits_grow base value [] h = omega arith
digits_grow base value (b ∷ bs) h = omega (arith, digits_grow base (if b == 95 then value else value * base + digit_value b) bs h, step (b == 95))
  where
    step : (v : Bool) → value ≤ (if v then value else value * base + digit_value b)
    step true = omega arith
    step false = omega (arith, mul-le-mul_left value h)

-- digits whose front is too large are
pub too_large : (base value next limit i : ℕ) (bs : List ℕ) → 1 ≤ base → i < length bs → next ≡ (if get_or bs i 0 == 95 then value else value * base + digit_value (get_or bs i 0)) → limit < next → digits_value base 0 bs ≡ digits_value base value (drop i bs) → false ≡ nat_le (digits_value base 0 bs) limit
too_large base value next limit i bs h k e l p =
    let more : digits_value base value (drop i bs) ≡ digits_value base next (drop (suc i) bs) = ap (digits_value base value) (drop-cons bs i 0 k) ∙ ap (λ v. digits_value base v (drop (suc i) bs)) (sym e) in
    sym (lt-leb _ limit (rw (p, more) (omega (arith, digits_grow base next (drop (suc i) bs) h))))

pub digit_read : (x value base next : ℕ) → (x ≡ 95 → ⊥) → next ≡ value * base + digit_value x → next ≡ (if x == 95 then value else value * base + digit_value x)
digit_read x value base next h k = by_test (x == 95) refl
  where
    by_test : (v : Bool) → (x == 95) ≡ v → next ≡ (if v then value else value * base + digit_value x)
    by_test true e = absurd (h (eqb-true x 95 e))
    by_test false e = k

pub score_read : (x value base next : ℕ) → x ≡ 95 → next ≡ value → next ≡ (if x == 95 then value else value * base + digit_value x)
score_read x value base next h k = rw (eq-eqb x 95 h) k
