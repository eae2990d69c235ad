-- The bytes of a word by shifts.
use Rattle.std.proofs.Common.{◌≡◌, ℕ, zero, suc, ◌+◌, ◌*◌, ◌^◌, refl, sym, ap, ◌∙◌, arith}
use Rattle.std.proofs.lemmas.Nat.{pow-add}

-- a byte's place among the bits
pub bits_before : (k : ℕ) → 256 ^ k ≡ 2 ^ (8 * k)
bits_before zero = refl
bits_before (suc k) =
    let more : 8 * suc k ≡ 8 + 8 * k = omega arith in
    let one : 256 ^ suc k ≡ 256 * 256 ^ k = omega arith in
    one ∙ ap (λ n. 256 * n) (bits_before k) ∙ sym (pow-add 2 8 (8 * k)) ∙ ap (λ n. 2 ^ n) (sym more)
