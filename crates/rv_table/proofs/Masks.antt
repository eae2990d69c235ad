-- A word under the mask of a format.
use Rattle.std.proofs.Common.{◌≡◌, ℕ, ◌+◌, ◌*◌, ◌/◌, ◌%◌, ◌^◌, ◌<◌, ap, ◌∙◌, arith}
use Rattle.std.specs.Prelude.{bit_and}
use Rattle.std.proofs.lemmas.Nat.{and_mask, and_block}

-- the opcode's bits
pub and_opcode : (w : ℕ) → bit_and w 0x7F ≡ w % 2 ^ 7
and_opcode w = and_mask w 7

-- and those of funct3
pub and_funct3 : (w : ℕ) → bit_and w 0x707F ≡ w / 2 ^ 12 % 2 ^ 3 * 2 ^ 12 + w % 2 ^ 12 % 2 ^ 7
and_funct3 w =
    let split : w ≡ w / 2 ^ 12 * 2 ^ 12 + w % 2 ^ 12 = omega arith in
    let low : w % 2 ^ 12 < 2 ^ 12 = omega arith in
    ap (λ n. bit_and n 0x707F) split ∙ and_block 12 (w / 2 ^ 12) 7 (w % 2 ^ 12) 0x7F low (omega arith)
    ∙ ap (λ n. n * 2 ^ 12 + bit_and (w % 2 ^ 12) 0x7F) (and_mask (w / 2 ^ 12) 3)
    ∙ ap (λ n. w / 2 ^ 12 % 2 ^ 3 * 2 ^ 12 + n) (and_mask (w % 2 ^ 12) 7)

-- and the bits from number 25, 26 or 27 on
pub and_funct7 : (w : ℕ) → bit_and w 0xFE00707F ≡ w / 2 ^ 25 % 2 ^ 7 * 2 ^ 25 + (w % 2 ^ 25 / 2 ^ 12 % 2 ^ 3 * 2 ^ 12 + w % 2 ^ 25 % 2 ^ 12 % 2 ^ 7)
and_funct7 w =
    let split : w ≡ w / 2 ^ 25 * 2 ^ 25 + w % 2 ^ 25 = omega arith in
    let low : w % 2 ^ 25 < 2 ^ 25 = omega arith in
    ap (λ n. bit_and n 0xFE00707F) split ∙ and_block 25 (w / 2 ^ 25) 0x7F (w % 2 ^ 25) 0x707F low (omega arith)
    ∙ ap (λ n. n * 2 ^ 25 + bit_and (w % 2 ^ 25) 0x707F) (and_mask (w / 2 ^ 25) 7)
    ∙ ap (λ n. w / 2 ^ 25 % 2 ^ 7 * 2 ^ 25 + n) (and_funct3 (w % 2 ^ 25))

pub and_funct6 : (w : ℕ) → bit_and w 0xFC00707F ≡ w / 2 ^ 26 % 2 ^ 6 * 2 ^ 26 + (w % 2 ^ 26 / 2 ^ 12 % 2 ^ 3 * 2 ^ 12 + w % 2 ^ 26 % 2 ^ 12 % 2 ^ 7)
and_funct6 w =
    let split : w ≡ w / 2 ^ 26 * 2 ^ 26 + w % 2 ^ 26 = omega arith in
    let low : w % 2 ^ 26 < 2 ^ 26 = omega arith in
    ap (λ n. bit_and n 0xFC00707F) split ∙ and_block 26 (w / 2 ^ 26) 0x3F (w % 2 ^ 26) 0x707F low (omega arith)
    ∙ ap (λ n. n * 2 ^ 26 + bit_and (w % 2 ^ 26) 0x707F) (and_mask (w / 2 ^ 26) 6)
    ∙ ap (λ n. w / 2 ^ 26 % 2 ^ 6 * 2 ^ 26 + n) (and_funct3 (w % 2 ^ 26))

pub and_funct5 : (w : ℕ) → bit_and w 0xF800707F ≡ w / 2 ^ 27 % 2 ^ 5 * 2 ^ 27 + (w % 2 ^ 27 / 2 ^ 12 % 2 ^ 3 * 2 ^ 12 + w % 2 ^ 27 % 2 ^ 12 % 2 ^ 7)
and_funct5 w =
    let split : w ≡ w / 2 ^ 27 * 2 ^ 27 + w % 2 ^ 27 = omega arith in
    let low : w % 2 ^ 27 < 2 ^ 27 = omega arith in
    ap (λ n. bit_and n 0xF800707F) split ∙ and_block 27 (w / 2 ^ 27) 0x1F (w % 2 ^ 27) 0x707F low (omega arith)
    ∙ ap (λ n. n * 2 ^ 27 + bit_and (w % 2 ^ 27) 0x707F) (and_mask (w / 2 ^ 27) 5)
    ∙ ap (λ n. w / 2 ^ 27 % 2 ^ 5 * 2 ^ 27 + n) (and_funct3 (w % 2 ^ 27))

-- the whole word
pub and_word : (w : ℕ) → bit_and w 0xFFFFFFFF ≡ w % 2 ^ 32
and_word w = and_mask w 32
