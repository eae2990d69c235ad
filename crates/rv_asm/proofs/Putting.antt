-- Running the instructions of a constant puts it into its register, and changes nothing else.
use Rattle.std.proofs.Common.{◌≡◌, ℕ, zero, suc, ◌+◌, ◌-◌, ◌*◌, ◌/◌, ◌%◌, ◌^◌, ◌<◌, ◌≤◌, ℤ, pos, negsuc, List, [], ◌∷◌, ◌++◌, Bool, true, false, Option, Some, refl, ap, ◌∙◌, arith}
use Rattle.std.specs.Prelude.{nat_lt, ◌==◌, if◌then◌else◌}
use Rattle.std.proofs.lemmas.Bool.{ltb-true, ltb-false, eq-eqb}
use Rattle.rv_model.specs.declared.instr.Op.TheVariants.{Addi, Addiw, Slli}
use Rattle.rv_model.specs.declared.instr.Instr.{Instr}
use Rattle.rv_model.specs.Word.{wrap, word_of, word_32}
use Rattle.rv_model.specs.Format.{plain, signed}
use Rattle.rv_model.specs.Machine.{Regs, put}
use Rattle.rv_model.specs.Block.{block}
use Rattle.rv_asm.specs.Constant.{is_small, is_middle, pair, more_bits, large_constant, constant}

-- registers

put_get : (r : Regs) (d a : ℕ) → put r (suc d) a (suc d) ≡ a
put_get r d a = ap (λ b. if b then a else r (suc d)) (eq-eqb (suc d) (suc d) refl)

put_twice : (r : Regs) (d a b : ℕ) → put (put r (suc d) a) (suc d) b ≡ put r (suc d) b
put_twice r d a b = λ i k. each k (k == suc d) i
  where
    each : (k : ℕ) (t : Bool) → (if t then b else (if t then a else r k)) ≡ (if t then b else r k)
    each k true = refl
    each k false = refl

-- one instruction after another on one register

more_addi : (d a : ℕ) (imm : ℤ) (is : List Instr) (r : Regs) (x : Option Regs) → block is (put r (suc d) (wrap (a + word_of imm))) ≡ x → block (plain Addi (suc d) (suc d) 0 imm ∷ is) (put r (suc d) a) ≡ x
more_addi d a imm is r x h =
    ap (λ n. block is (put (put r (suc d) a) (suc d) (wrap (n + word_of imm)))) (put_get r d a)
    ∙ ap (block is) (put_twice r d a (wrap (a + word_of imm))) ∙ h

more_addiw : (d a : ℕ) (imm : ℤ) (is : List Instr) (r : Regs) (x : Option Regs) → block is (put r (suc d) (word_32 (a + word_of imm))) ≡ x → block (plain Addiw (suc d) (suc d) 0 imm ∷ is) (put r (suc d) a) ≡ x
more_addiw d a imm is r x h =
    ap (λ n. block is (put (put r (suc d) a) (suc d) (word_32 (n + word_of imm)))) (put_get r d a)
    ∙ ap (block is) (put_twice r d a (word_32 (a + word_of imm))) ∙ h

more_slli : (d a : ℕ) (imm : ℤ) (is : List Instr) (r : Regs) (x : Option Regs) → block is (put r (suc d) (wrap (a * 2 ^ (word_of imm % 64)))) ≡ x → block (plain Slli (suc d) (suc d) 0 imm ∷ is) (put r (suc d) a) ≡ x
more_slli d a imm is r x h =
    ap (λ n. block is (put (put r (suc d) a) (suc d) (wrap (n * 2 ^ (word_of imm % 64))))) (put_get r d a)
    ∙ ap (block is) (put_twice r d a (wrap (a * 2 ^ (word_of imm % 64)))) ∙ h

-- numbers of 32 bits

word_32-form : (a : ℕ) → (q : ℕ) × (word_32 a ≡ a % 2 ^ 32 + 2 ^ 32 * q)
word_32-form a = by (nat_lt (a % 2 ^ 32) (2 ^ 31))
  where
    by : (b : Bool) → (q : ℕ) × ((if b then a % 2 ^ 32 else a % 2 ^ 32 + (2 ^ 64 - 2 ^ 32)) ≡ a % 2 ^ 32 + 2 ^ 32 * q)
    by true = (0, omega arith)
    by false = (2 ^ 32 - 1, omega arith)

word_32-below : (a : ℕ) → word_32 a < 2 ^ 64
word_32-below a = by (nat_lt (a % 2 ^ 32) (2 ^ 31))
  where
    by : (b : Bool) → (if b then a % 2 ^ 32 else a % 2 ^ 32 + (2 ^ 64 - 2 ^ 32)) < 2 ^ 64
    by true = omega arith
    by false = omega arith

word_32-same : (a b : ℕ) → a % 2 ^ 32 ≡ b % 2 ^ 32 → word_32 a ≡ word_32 b
word_32-same a b e = ap (λ n. if nat_lt n (2 ^ 31) then n else n + (2 ^ 64 - 2 ^ 32)) e

word_of-low : (n : ℕ) → n < 2 ^ 12 → (q : ℕ) × (word_of (signed 12 n) + 2 ^ 12 * q ≡ 2 ^ 64 * q + n) × (q < 2) × (2 ^ 11 * q ≤ n) × (n < 2 ^ 11 + 2 ^ 11 * q)
word_of-low n h = by (nat_lt n (2 ^ 11)) refl
  where
    by : (b : Bool) → nat_lt n (2 ^ 11) ≡ b → (q : ℕ) × (word_of (if b then pos n else negsuc (2 ^ 12 - 1 - n)) + 2 ^ 12 * q ≡ 2 ^ 64 * q + n) × (q < 2) × (2 ^ 11 * q ≤ n) × (n < 2 ^ 11 + 2 ^ 11 * q)
    by true e = let lt = ltb-true n (2 ^ 11) e in (0, omega (arith, lt), omega arith, omega arith, omega (arith, lt))
    by false e = let le = ltb-false n (2 ^ 11) e in (1, omega (arith, le, h), omega arith, omega (arith, le), omega (arith, h))

-- LUI and ADDIW make the low 32 bits
pair_value : (v : ℕ) → word_32 (word_32 (word_of (pos ((v + 2 ^ 11) / 2 ^ 12 % 2 ^ 20)) * 2 ^ 12) + word_of (signed 12 (v % 2 ^ 12))) ≡ word_32 v
pair_value v =
    let h = (v + 2 ^ 11) / 2 ^ 12 % 2 ^ 20 in
    let up = word_32-form (word_of (pos h) * 2 ^ 12) in
    let low = word_of-low (v % 2 ^ 12) (omega arith) in
    word_32-same (word_32 (word_of (pos h) * 2 ^ 12) + word_of (signed 12 (v % 2 ^ 12))) v
    (mod_32 v h up.0 low.0 (word_32 (word_of (pos h) * 2 ^ 12)) (word_of (signed 12 (v % 2 ^ 12))) refl (up.1 ∙ small h) low.1 low.3 low.4)
  where
    small : (h : ℕ) → word_of (pos h) * 2 ^ 12 % 2 ^ 32 + 2 ^ 32 * (word_32-form (word_of (pos h) * 2 ^ 12)).0 ≡ h * 2 ^ 12 % 2 ^ 32 + 2 ^ 32 * (word_32-form (word_of (pos h) * 2 ^ 12)).0
    small h = ap (λ n. n + 2 ^ 32 * (word_32-form (word_of (pos h) * 2 ^ 12)).0) (omega arith)

    mod_32 : (v h q p a b : ℕ) → h ≡ (v + 2 ^ 11) / 2 ^ 12 % 2 ^ 20 → a ≡ h * 2 ^ 12 % 2 ^ 32 + 2 ^ 32 * q → b + 2 ^ 12 * p ≡ 2 ^ 64 * p + v % 2 ^ 12 → 2 ^ 11 * p ≤ v % 2 ^ 12 → v % 2 ^ 12 < 2 ^ 11 + 2 ^ 11 * p → (a + b) % 2 ^ 32 ≡ v % 2 ^ 32
    mod_32 v h q p a b eh ea eb lo hi = omega (arith, eh, ea, eb, lo, hi)

-- the pair puts the low 32 bits, their sign extended
pub pair_on : (rd v : ℕ) (is : List Instr) (r : Regs) (x : Option Regs) → block is (put r rd (word_32 v)) ≡ x → block (pair rd v ++ is) r ≡ x
pair_on zero v is r x h = h
pair_on (suc d) v is r x h =
    more_addiw d (word_32 (word_of (pos ((v + 2 ^ 11) / 2 ^ 12 % 2 ^ 20)) * 2 ^ 12)) (signed 12 (v % 2 ^ 12)) is r x
    (ap (λ n. block is (put r (suc d) n)) (pair_value v) ∙ h)

-- values

small_value : (v : ℕ) → v < 2 ^ 64 → is_small v ≡ true → wrap (0 + word_of (signed 12 (v % 2 ^ 12))) ≡ v
small_value v h e =
    let lt = ltb-true (wrap (v + 2 ^ 11)) (2 ^ 12) e in
    let low = word_of-low (v % 2 ^ 12) (omega arith) in
    from v low.0 (word_of (signed 12 (v % 2 ^ 12))) h lt low.1 low.2 low.3 low.4
  where
    from : (v q b : ℕ) → v < 2 ^ 64 → (v + 2 ^ 11) % 2 ^ 64 < 2 ^ 12 → b + 2 ^ 12 * q ≡ 2 ^ 64 * q + v % 2 ^ 12 → q < 2 → 2 ^ 11 * q ≤ v % 2 ^ 12 → v % 2 ^ 12 < 2 ^ 11 + 2 ^ 11 * q → (0 + b) % 2 ^ 64 ≡ v
    from v zero b h lt e t lo hi = omega (arith, h, lt, e, lo, hi)
    from v (suc zero) b h lt e t lo hi = omega (arith, h, lt, e, lo, hi)
    from v (suc (suc q)) b h lt e t lo hi = absurd (omega (arith, t))

middle_value : (v : ℕ) → v < 2 ^ 64 → is_middle v ≡ true → word_32 v ≡ v
middle_value v h e = by (nat_lt (v % 2 ^ 32) (2 ^ 31)) refl
  where
    lt : (v + 2 ^ 31) % 2 ^ 64 < 2 ^ 32
    lt = ltb-true (wrap (v + 2 ^ 31)) (2 ^ 32) e

    by : (b : Bool) → nat_lt (v % 2 ^ 32) (2 ^ 31) ≡ b → (if b then v % 2 ^ 32 else v % 2 ^ 32 + (2 ^ 64 - 2 ^ 32)) ≡ v
    by true t = let low = ltb-true (v % 2 ^ 32) (2 ^ 31) t in omega (arith, h, lt, low)
    by false t = let up = ltb-false (v % 2 ^ 32) (2 ^ 31) t in omega (arith, h, lt, up)

-- so many bits further up, and the next bits below
shifted_11 : (a x p : ℕ) → a ≡ x % 2 ^ 64 → (a * 2 ^ 11 % 2 ^ 64 + p) % 2 ^ 64 ≡ (x * 2 ^ 11 + p) % 2 ^ 64
shifted_11 a x p e = omega (arith, e)

shifted_10 : (a x p : ℕ) → a ≡ x % 2 ^ 64 → (a * 2 ^ 10 % 2 ^ 64 + p) % 2 ^ 64 ≡ (x * 2 ^ 10 + p) % 2 ^ 64
shifted_10 a x p e = omega (arith, e)

large_value : (v : ℕ) → v < 2 ^ 64 → (((word_32 (v / 2 ^ 32) * 2 ^ 11 % 2 ^ 64 + v / 2 ^ 21 % 2 ^ 11) % 2 ^ 64 * 2 ^ 11 % 2 ^ 64 + v / 2 ^ 10 % 2 ^ 11) % 2 ^ 64 * 2 ^ 10 % 2 ^ 64 + v % 2 ^ 10) % 2 ^ 64 ≡ v
large_value v h =
    let s = word_32 (v / 2 ^ 32) in
    let form = word_32-form (v / 2 ^ 32) in
    let q = form.0 in
    let whole : s ≡ (v / 2 ^ 32 + 2 ^ 32 * q) % 2 ^ 64 = below s (v / 2 ^ 32) q (word_32-below (v / 2 ^ 32)) (form.1 ∙ same (v / 2 ^ 32) q h) in
    let one = shifted_11 s (v / 2 ^ 32 + 2 ^ 32 * q) (v / 2 ^ 21 % 2 ^ 11) whole in
    let two = shifted_11 _ ((v / 2 ^ 32 + 2 ^ 32 * q) * 2 ^ 11 + v / 2 ^ 21 % 2 ^ 11) (v / 2 ^ 10 % 2 ^ 11) one in
    let three = shifted_10 _ (((v / 2 ^ 32 + 2 ^ 32 * q) * 2 ^ 11 + v / 2 ^ 21 % 2 ^ 11) * 2 ^ 11 + v / 2 ^ 10 % 2 ^ 11) (v % 2 ^ 10) two in
    three ∙ omega (arith, h)
  where
    same : (n q : ℕ) → v < 2 ^ 64 → v / 2 ^ 32 % 2 ^ 32 + 2 ^ 32 * q ≡ v / 2 ^ 32 + 2 ^ 32 * q
    same n q h = omega (arith, h)

    below : (s n q : ℕ) → s < 2 ^ 64 → s ≡ n + 2 ^ 32 * q → s ≡ (n + 2 ^ 32 * q) % 2 ^ 64
    below s n q lt e = omega (arith, lt, e)

-- the parts are small numbers
parts : (v x y z : ℕ) → x < 2 ^ 11 → y < 2 ^ 11 → z < 2 ^ 10 → (((word_32 (v / 2 ^ 32) * 2 ^ 11 % 2 ^ 64 + x % 2 ^ 64) % 2 ^ 64 * 2 ^ 11 % 2 ^ 64 + y % 2 ^ 64) % 2 ^ 64 * 2 ^ 10 % 2 ^ 64 + z % 2 ^ 64) % 2 ^ 64 ≡ (((word_32 (v / 2 ^ 32) * 2 ^ 11 % 2 ^ 64 + x) % 2 ^ 64 * 2 ^ 11 % 2 ^ 64 + y) % 2 ^ 64 * 2 ^ 10 % 2 ^ 64 + z) % 2 ^ 64
parts v x y z hx hy hz =
    let ex : x % 2 ^ 64 ≡ x = omega (arith, hx) in
    let ey : y % 2 ^ 64 ≡ y = omega (arith, hy) in
    let ez : z % 2 ^ 64 ≡ z = omega (arith, hz) in
    rw (ex, ey, ez) refl

large_puts : (rd v : ℕ) (r : Regs) → v < 2 ^ 64 → block (large_constant rd v) r ≡ Some (put r rd v)
large_puts zero v r h = refl
large_puts (suc d) v r h =
    let s = word_32 (v / 2 ^ 32) in
    let a = wrap (s * 2 ^ (word_of (pos 11) % 64)) in
    let b = wrap (a + word_of (pos (v / 2 ^ 21 % 2 ^ 11))) in
    let e = wrap (b * 2 ^ (word_of (pos 11) % 64)) in
    let f = wrap (e + word_of (pos (v / 2 ^ 10 % 2 ^ 11))) in
    let g = wrap (f * 2 ^ (word_of (pos 10) % 64)) in
    let last = wrap (g + word_of (pos (v % 2 ^ 10))) in
    let bits = more_bits (suc d) 11 (v / 2 ^ 21 % 2 ^ 11) ++ (more_bits (suc d) 11 (v / 2 ^ 10 % 2 ^ 11) ++ more_bits (suc d) 10 (v % 2 ^ 10)) in
    let after_5 = plain Addi (suc d) (suc d) 0 (pos (v % 2 ^ 10)) ∷ [] in
    let after_4 = plain Slli (suc d) (suc d) 0 (pos 10) ∷ after_5 in
    let after_3 = plain Addi (suc d) (suc d) 0 (pos (v / 2 ^ 10 % 2 ^ 11)) ∷ after_4 in
    let after_2 = plain Slli (suc d) (suc d) 0 (pos 11) ∷ after_3 in
    let after_1 = plain Addi (suc d) (suc d) 0 (pos (v / 2 ^ 21 % 2 ^ 11)) ∷ after_2 in
    let is : last ≡ v = parts v (v / 2 ^ 21 % 2 ^ 11) (v / 2 ^ 10 % 2 ^ 11) (v % 2 ^ 10) (omega arith) (omega arith) (omega arith) ∙ large_value v h in
    pair_on (suc d) (v / 2 ^ 32) bits r (Some (put r (suc d) v))
    (more_slli d s (pos 11) after_1 r _ (more_addi d a (pos (v / 2 ^ 21 % 2 ^ 11)) after_2 r _
    (more_slli d b (pos 11) after_3 r _ (more_addi d e (pos (v / 2 ^ 10 % 2 ^ 11)) after_4 r _
    (more_slli d f (pos 10) after_5 r _ (more_addi d g (pos (v % 2 ^ 10)) [] r _ (ap (λ n. Some (put r (suc d) n)) is)))))))

-- running the instructions of a constant puts it into its register
pub constant_puts : (rd v : ℕ) (r : Regs) → v < 2 ^ 64 → block (constant rd v) r ≡ Some (put r rd v)
constant_puts rd v r h = by (is_small v) refl (is_middle v) refl
  where
    by : (a : Bool) → is_small v ≡ a → (b : Bool) → is_middle v ≡ b → block (if a then plain Addi rd 0 0 (signed 12 (v % 2 ^ 12)) ∷ [] else if b then pair rd v else large_constant rd v) r ≡ Some (put r rd v)
    by true e b f = ap (λ n. Some (put r rd n)) (small_value v h e)
    by false e true f = pair_on rd v [] r (Some (put r rd v)) (ap (λ n. Some (put r rd n)) (middle_value v h f))
    by false e false f = large_puts rd v r h

-- running the two instructions of an address puts it into its register
pub address_puts : (rd v : ℕ) (r : Regs) → v < 2 ^ 31 → block (pair rd v) r ≡ Some (put r rd v)
address_puts rd v r h = pair_on rd v [] r (Some (put r rd v)) (ap (λ n. Some (put r rd n)) (low (nat_lt (v % 2 ^ 32) (2 ^ 31)) refl))
  where
    low : (b : Bool) → nat_lt (v % 2 ^ 32) (2 ^ 31) ≡ b → (if b then v % 2 ^ 32 else v % 2 ^ 32 + (2 ^ 64 - 2 ^ 32)) ≡ v
    low true t = omega (arith, h)
    low false t = let up = ltb-false (v % 2 ^ 32) (2 ^ 31) t in absurd (omega (arith, h, up))
