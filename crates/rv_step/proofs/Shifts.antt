-- A signed shift fits.
use Rattle.std.proofs.Common.{◌≡◌, ℕ, ◌+◌, ◌-◌, ◌*◌, ◌/◌, ◌%◌, ◌^◌, ◌<◌, sym, ap, ◌∙◌, subst, arith}
use Rattle.std.proofs.Math.Nat.{div-lt_iff_lt-mul, one-le-pow}
use Rattle.std.proofs.lemmas.Nat.{pow-add}

pub shift_fits : (a n s t k : ℕ) → a < 2 ^ 64 → n < 64 → s ≡ 2 ^ n → t ≡ 2 ^ (64 - n) → k ≡ (2 ^ 64 - t) % 2 ^ 64 → a / s + k < 2 ^ 64
shift_fits a n s t k h l es et ek =
    let e : 64 - n + n ≡ 64 = omega arith in
    let p : t * s ≡ 2 ^ 64 = ap (λ x. x * s) et ∙ ap (λ x. 2 ^ (64 - n) * x) es ∙ sym (pow-add 2 (64 - n) n) ∙ ap (λ x. 2 ^ x) e in
    let some : 0 < s = subst (λ x. 0 < x) (sym es) (one-le-pow n 2 (omega arith)) in
    let more : 0 < t = subst (λ x. 0 < x) (sym et) (one-le-pow (64 - n) 2 (omega arith)) in
    let q : a / s < t = (div-lt_iff_lt-mul some).1 (subst (λ x. a < x) (sym p) h) in
    omega arith
