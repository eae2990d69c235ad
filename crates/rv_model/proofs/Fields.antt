-- The fields of instruction words: what is put into a word is found there again.
use Rattle.std.proofs.Common.{◌≡◌, ℕ, ◌+◌, ◌-◌, ◌*◌, ◌/◌, ◌%◌, ◌^◌, ◌<◌, ◌≤◌, ℤ, pos, negsuc, Bool, true, false, not, ◌&&◌, refl, sym, ap, ◌∙◌, arith}
use Rattle.std.specs.Prelude.{nat_lt, ◌==◌, if◌then◌else◌}
use Rattle.std.proofs.lemmas.Bool.{ltb-true, ltb-false, lt-ltb, le-ltb, eqb-true, eq-eqb, and_parts, and_from}
use Rattle.rv_model.specs.declared.instr.Op.{Op}
use Rattle.rv_model.specs.declared.instr.Instr.{Instr}
use Rattle.rv_model.specs.Word.{word_of, bit}
use Rattle.rv_model.specs.Format.{Format, Register, Immediate, Shift, Store, Branch, Upper, Jump, Atomic, System, Parts, packed, parts_of, low, signed, branch_above, branch_below, branch_offset, jump_bits, jump_offset, upper_parts, upper_bits, parts, fields, is_signed, is_below, is_even, fits}

-- each part is in the range of its bits
pub record InRange (p : Parts) : Type 0 where
  pub opcode : p.opcode < 2 ^ 7
  pub rd : p.rd < 2 ^ 5
  pub funct3 : p.funct3 < 2 ^ 3
  pub rs1 : p.rs1 < 2 ^ 5
  pub rs2 : p.rs2 < 2 ^ 5
  pub funct7 : p.funct7 < 2 ^ 7

pub parts_of-packed : (p : Parts) → InRange p → parts_of (packed p) ≡ p
parts_of-packed p h = λ j. record { opcode = e0 j; rd = e1 j; funct3 = e2 j; rs1 = e3 j; rs2 = e4 j; funct7 = e5 j }
  where
    e0 : packed p % 2 ^ 7 ≡ p.opcode
    e0 = omega (arith, h.opcode)

    e1 : packed p / 2 ^ 7 % 2 ^ 5 ≡ p.rd
    e1 = omega (arith, h.opcode, h.rd)

    e2 : packed p / 2 ^ 12 % 2 ^ 3 ≡ p.funct3
    e2 = omega (arith, h.opcode, h.rd, h.funct3)

    e3 : packed p / 2 ^ 15 % 2 ^ 5 ≡ p.rs1
    e3 = omega (arith, h.opcode, h.rd, h.funct3, h.rs1)

    e4 : packed p / 2 ^ 20 % 2 ^ 5 ≡ p.rs2
    e4 = omega (arith, h.opcode, h.rd, h.funct3, h.rs1, h.rs2)

    e5 : packed p / 2 ^ 25 ≡ p.funct7
    e5 = omega (arith, h.opcode, h.rd, h.funct3, h.rs1, h.rs2)

pub packed-parts_of : (w : ℕ) → packed (parts_of w) ≡ w
packed-parts_of w = omega arith

pub packed-below : (p : Parts) → InRange p → packed p < 2 ^ 32
packed-below p h = omega (arith, h.opcode, h.rd, h.funct3, h.rs1, h.rs2, h.funct7)

pub parts_of-range : (w : ℕ) → w < 2 ^ 32 → InRange (parts_of w)
parts_of-range w lt = record { opcode = omega arith; rd = omega arith; funct3 = omega arith; rs1 = omega arith; rs2 = omega arith; funct7 = omega (arith, lt) }

-- the fixed bits are in range
abbrev pub IsFixed : Format → Type 0
IsFixed (Register o f g) = (o < 2 ^ 7) × (f < 2 ^ 3) × (g < 2 ^ 7)
IsFixed (Immediate o f) = (o < 2 ^ 7) × (f < 2 ^ 3)
IsFixed (Shift o f g) = (o < 2 ^ 7) × (f < 2 ^ 3) × (g < 2 ^ 6)
IsFixed (Store o f) = (o < 2 ^ 7) × (f < 2 ^ 3)
IsFixed (Branch o f) = (o < 2 ^ 7) × (f < 2 ^ 3)
IsFixed (Upper o) = o < 2 ^ 7
IsFixed (Jump o) = o < 2 ^ 7
IsFixed (Atomic o f g) = (o < 2 ^ 7) × (f < 2 ^ 3) × (g < 2 ^ 5)
IsFixed (System o) = o < 2 ^ 7

pub bit-below : (b : Bool) → bit b < 2
bit-below true = omega arith
bit-below false = omega arith

pub parts-range : (f : Format) (i : Instr) → IsFixed f → i.rd < 32 → i.rs1 < 32 → i.rs2 < 32 → InRange (parts f i)
parts-range (Register o f g) i h d a b = record { opcode = h.0; rd = d; funct3 = h.1; rs1 = a; rs2 = b; funct7 = h.2 }
parts-range (Immediate o f) i h d a b = record { opcode = h.0; rd = d; funct3 = h.1; rs1 = a; rs2 = omega arith; funct7 = omega arith }
parts-range (Shift o f g) i h d a b = record { opcode = h.0; rd = d; funct3 = h.1; rs1 = a; rs2 = omega arith; funct7 = omega (arith, h.2) }
parts-range (Store o f) i h d a b = record { opcode = h.0; rd = omega arith; funct3 = h.1; rs1 = a; rs2 = b; funct7 = omega arith }
parts-range (Branch o f) i h d a b = record { opcode = h.0; rd = omega arith; funct3 = h.1; rs1 = a; rs2 = b; funct7 = omega arith }
parts-range (Upper o) i h d a b = record { opcode = h; rd = d; funct3 = omega arith; rs1 = omega arith; rs2 = omega arith; funct7 = omega arith }
parts-range (Jump o) i h d a b = record { opcode = h; rd = d; funct3 = omega arith; rs1 = omega arith; rs2 = omega arith; funct7 = omega arith }
parts-range (Atomic o f g) i h d a b = record { opcode = h.0; rd = d; funct3 = h.1; rs1 = a; rs2 = b; funct7 = omega (arith, h.2, bit-below i.aq, bit-below i.rl) }
parts-range (System o) i h d a b = record { opcode = h; rd = omega arith; funct3 = omega arith; rs1 = omega arith; rs2 = omega arith; funct7 = omega arith }

-- immediates

signed-low_half : (bits n : ℕ) → n < 2 ^ (bits - 1) → signed bits n ≡ pos n
signed-low_half bits n lt = ap (λ b. if b then pos n else negsuc (2 ^ bits - 1 - n)) (lt-ltb n (2 ^ (bits - 1)) lt)

signed-high_half : (bits n k : ℕ) → 2 ^ (bits - 1) ≤ n → 2 ^ bits - 1 - n ≡ k → signed bits n ≡ negsuc k
signed-high_half bits n k le e = ap (λ b. if b then pos n else negsuc (2 ^ bits - 1 - n)) (le-ltb n (2 ^ (bits - 1)) le) ∙ ap negsuc e

signed-low_12 : (z : ℤ) → is_signed 12 z ≡ true → signed 12 (low 12 z) ≡ z
signed-low_12 (pos n) h =
    let lt = ltb-true n (2 ^ 11) h in
    let e : n % 2 ^ 64 % 2 ^ 12 ≡ n = omega (arith, lt) in
    ap (signed 12) e ∙ signed-low_half 12 n lt
signed-low_12 (negsuc n) h =
    let lt = ltb-true n (2 ^ 11) h in
    signed-high_half 12 ((2 ^ 64 - 1 - n) % 2 ^ 64 % 2 ^ 12) n (omega (arith, lt)) (omega (arith, lt))

signed-low_13 : (z : ℤ) → is_signed 13 z ≡ true → signed 13 (low 13 z) ≡ z
signed-low_13 (pos n) h =
    let lt = ltb-true n (2 ^ 12) h in
    let e : n % 2 ^ 64 % 2 ^ 13 ≡ n = omega (arith, lt) in
    ap (signed 13) e ∙ signed-low_half 13 n lt
signed-low_13 (negsuc n) h =
    let lt = ltb-true n (2 ^ 12) h in
    signed-high_half 13 ((2 ^ 64 - 1 - n) % 2 ^ 64 % 2 ^ 13) n (omega (arith, lt)) (omega (arith, lt))

signed-low_21 : (z : ℤ) → is_signed 21 z ≡ true → signed 21 (low 21 z) ≡ z
signed-low_21 (pos n) h =
    let lt = ltb-true n (2 ^ 20) h in
    let e : n % 2 ^ 64 % 2 ^ 21 ≡ n = omega (arith, lt) in
    ap (signed 21) e ∙ signed-low_half 21 n lt
signed-low_21 (negsuc n) h =
    let lt = ltb-true n (2 ^ 20) h in
    signed-high_half 21 ((2 ^ 64 - 1 - n) % 2 ^ 64 % 2 ^ 21) n (omega (arith, lt)) (omega (arith, lt))

-- an even integer has an even number
low-even : (z : ℤ) → is_even z ≡ true → word_of z % 2 ≡ 0
low-even (pos n) h = let e = eqb-true (n % 2) 0 h in omega (arith, e)
low-even (negsuc n) h = let e = eqb-true (n % 2) 1 h in omega (arith, e)

is_below-pos : (limit : ℕ) (z : ℤ) → is_below limit z ≡ true → (n : ℕ) × (n < limit) × (z ≡ pos n)
is_below-pos limit (pos n) h = (n, ltb-true n limit h, refl)
is_below-pos limit (negsuc n) h = absurd (cc)

is_below-zero : (z : ℤ) → is_below 1 z ≡ true → pos 0 ≡ z
is_below-zero z h = let x = is_below-pos 1 z h in let e : 0 ≡ x.0 = omega (arith, x.1) in ap pos e ∙ sym x.2

upper_bits-parts : (o d m : ℕ) → upper_bits (upper_parts o d m) ≡ m
upper_bits-parts o d m = omega arith

branch_offset-bits : (n : ℕ) → n % 2 ≡ 0 → branch_offset (branch_above n) (branch_below n) ≡ n
branch_offset-bits n even = omega (arith, even)

jump_offset-bits : (n : ℕ) → n < 2 ^ 21 → n % 2 ≡ 0 → jump_offset (jump_bits n) ≡ n
jump_offset-bits n lt even = omega (arith, lt, even)

-- instructions

same : (i j : Instr) → i.op ≡ j.op → i.rd ≡ j.rd → i.rs1 ≡ j.rs1 → i.rs2 ≡ j.rs2 → i.imm ≡ j.imm → i.aq ≡ j.aq → i.rl ≡ j.rl → i ≡ j
same i j op rd rs1 rs2 imm aq rl = λ k. record { op = op k; rd = rd k; rs1 = rs1 k; rs2 = rs2 k; imm = imm k; aq = aq k; rl = rl k }

-- what an instruction without an order has of it
unordered : (a b : Bool) → (not a && not b) ≡ true → (false ≡ a) × (false ≡ b)
unordered true b h = absurd (cc)
unordered false true h = absurd (cc)
unordered false false h = (refl, refl)

zero : (n : ℕ) → (n == 0) ≡ true → 0 ≡ n
zero n h = sym (eqb-true n 0 h)

-- the orders are found in the lowest bits above
order-acquire : (g : ℕ) (a b : Bool) → ((g * 4 + bit a * 2 + bit b) / 2 % 2 == 1) ≡ a
order-acquire g true true = eq-eqb _ 1 (omega arith)
order-acquire g true false = eq-eqb _ 1 (omega arith)
order-acquire g false true = ap (λ n. n == 1) (let e : (g * 4 + 0 * 2 + 1) / 2 % 2 ≡ 0 = omega arith in e)
order-acquire g false false = ap (λ n. n == 1) (let e : (g * 4 + 0 * 2 + 0) / 2 % 2 ≡ 0 = omega arith in e)

order-release : (g : ℕ) (a b : Bool) → ((g * 4 + bit a * 2 + bit b) % 2 == 1) ≡ b
order-release g true true = eq-eqb _ 1 (omega arith)
order-release g false true = eq-eqb _ 1 (omega arith)
order-release g true false = ap (λ n. n == 1) (let e : (g * 4 + 1 * 2 + 0) % 2 ≡ 0 = omega arith in e)
order-release g false false = ap (λ n. n == 1) (let e : (g * 4 + 0 * 2 + 0) % 2 ≡ 0 = omega arith in e)

-- an instruction that fits its format is found in its parts
pub fields-parts : (op : Op) (f : Format) (i : Instr) → op ≡ i.op → fits f i ≡ true → fields op f (parts f i) ≡ i
fields-parts op (Register o f g) i e h =
    let p = and_parts (is_below 1 i.imm) _ h in
    let u = unordered i.aq i.rl p.1 in
    same _ i e refl refl refl (is_below-zero i.imm p.0) u.0 u.1
fields-parts op (Immediate o f) i e h =
    let p = and_parts (is_signed 12 i.imm && (i.rs2 == 0)) _ h in
    let q = and_parts (is_signed 12 i.imm) _ p.0 in
    let u = unordered i.aq i.rl p.1 in
    let n = low 12 i.imm in
    let whole : n % 2 ^ 5 + 2 ^ 5 * (n / 2 ^ 5) ≡ n = omega arith in
    same _ i e refl refl (zero i.rs2 q.1) (ap (signed 12) whole ∙ signed-low_12 i.imm q.0) u.0 u.1
fields-parts op (Shift o f g) i e h =
    let p = and_parts (is_below 64 i.imm && (i.rs2 == 0)) _ h in
    let q = and_parts (is_below 64 i.imm) _ p.0 in
    let u = unordered i.aq i.rl p.1 in
    let x = is_below-pos 64 i.imm q.0 in
    let n = low 6 i.imm in
    let whole : n % 2 ^ 5 + 2 ^ 5 * ((g * 2 + n / 2 ^ 5) % 2) ≡ n = omega arith in
    let small : x.0 % 2 ^ 64 % 2 ^ 6 ≡ x.0 = omega (arith, x.1) in
    same _ i e refl refl (zero i.rs2 q.1) (ap pos (whole ∙ ap (low 6) x.2 ∙ small) ∙ sym x.2) u.0 u.1
fields-parts op (Store o f) i e h =
    let p = and_parts (is_signed 12 i.imm && (i.rd == 0)) _ h in
    let q = and_parts (is_signed 12 i.imm) _ p.0 in
    let u = unordered i.aq i.rl p.1 in
    let n = low 12 i.imm in
    let whole : n % 2 ^ 5 + 2 ^ 5 * (n / 2 ^ 5) ≡ n = omega arith in
    same _ i e (zero i.rd q.1) refl refl (ap (signed 12) whole ∙ signed-low_12 i.imm q.0) u.0 u.1
fields-parts op (Branch o f) i e h =
    let p = and_parts (is_signed 13 i.imm && is_even i.imm && (i.rd == 0)) _ h in
    let q = and_parts (is_signed 13 i.imm && is_even i.imm) _ p.0 in
    let r = and_parts (is_signed 13 i.imm) _ q.0 in
    let u = unordered i.aq i.rl p.1 in
    let even : low 13 i.imm % 2 ≡ 0 = let x = low-even i.imm r.1 in omega (arith, x) in
    same _ i e (zero i.rd q.1) refl refl (ap (signed 13) (branch_offset-bits (low 13 i.imm) even) ∙ signed-low_13 i.imm r.0) u.0 u.1
fields-parts op (Upper o) i e h =
    let p = and_parts (is_below (2 ^ 20) i.imm && (i.rs1 == 0) && (i.rs2 == 0)) _ h in
    let q = and_parts (is_below (2 ^ 20) i.imm && (i.rs1 == 0)) _ p.0 in
    let r = and_parts (is_below (2 ^ 20) i.imm) _ q.0 in
    let u = unordered i.aq i.rl p.1 in
    let x = is_below-pos (2 ^ 20) i.imm r.0 in
    let small : x.0 % 2 ^ 64 % 2 ^ 20 ≡ x.0 = omega (arith, x.1) in
    same _ i e refl (zero i.rs1 r.1) (zero i.rs2 q.1) (ap pos (upper_bits-parts o i.rd (low 20 i.imm) ∙ ap (low 20) x.2 ∙ small) ∙ sym x.2) u.0 u.1
fields-parts op (Jump o) i e h =
    let p = and_parts (is_signed 21 i.imm && is_even i.imm && (i.rs1 == 0) && (i.rs2 == 0)) _ h in
    let q = and_parts (is_signed 21 i.imm && is_even i.imm && (i.rs1 == 0)) _ p.0 in
    let r = and_parts (is_signed 21 i.imm && is_even i.imm) _ q.0 in
    let s = and_parts (is_signed 21 i.imm) _ r.0 in
    let u = unordered i.aq i.rl p.1 in
    let even : low 21 i.imm % 2 ≡ 0 = let x = low-even i.imm s.1 in omega (arith, x) in
    let offset : jump_offset (upper_bits (upper_parts o i.rd (jump_bits (low 21 i.imm)))) ≡ low 21 i.imm =
    ap jump_offset (upper_bits-parts o i.rd (jump_bits (low 21 i.imm))) ∙ jump_offset-bits (low 21 i.imm) (omega arith) even in
    same _ i e refl (zero i.rs1 r.1) (zero i.rs2 q.1) (ap (signed 21) offset ∙ signed-low_21 i.imm s.0) u.0 u.1
fields-parts op (Atomic o f g) i e h = same _ i e refl refl refl (is_below-zero i.imm h) (order-acquire g i.aq i.rl) (order-release g i.aq i.rl)
fields-parts op (System o) i e h =
    let p = and_parts (is_below 1 i.imm && (i.rd == 0) && (i.rs1 == 0) && (i.rs2 == 0)) _ h in
    let q = and_parts (is_below 1 i.imm && (i.rd == 0) && (i.rs1 == 0)) _ p.0 in
    let r = and_parts (is_below 1 i.imm && (i.rd == 0)) _ q.0 in
    let s = and_parts (is_below 1 i.imm) _ r.0 in
    let u = unordered i.aq i.rl p.1 in
    same _ i e (zero i.rd s.1) (zero i.rs1 r.1) (zero i.rs2 q.1) (is_below-zero i.imm s.0) u.0 u.1

-- what is read from a word fits its format

pub signed-fits : (bits n : ℕ) → (2 ^ (bits - 1) ≤ n → 2 ^ bits - 1 - n < 2 ^ (bits - 1)) → is_signed bits (signed bits n) ≡ true
signed-fits bits n above = by (nat_lt n (2 ^ (bits - 1))) refl
  where
    by : (b : Bool) → nat_lt n (2 ^ (bits - 1)) ≡ b → is_signed bits (if b then pos n else negsuc (2 ^ bits - 1 - n)) ≡ true
    by true e = e
    by false e = lt-ltb _ _ (above (ltb-false n (2 ^ (bits - 1)) e))

signed-even : (bits n : ℕ) → n % 2 ≡ 0 → (2 ^ bits - 1 - n) % 2 ≡ 1 → is_even (signed bits n) ≡ true
signed-even bits n even odd = by (nat_lt n (2 ^ (bits - 1)))
  where
    by : (b : Bool) → is_even (if b then pos n else negsuc (2 ^ bits - 1 - n)) ≡ true
    by true = eq-eqb (n % 2) 0 even
    by false = eq-eqb ((2 ^ bits - 1 - n) % 2) 1 odd

pub fits-fields : (op : Op) (f : Format) (p : Parts) → InRange p → fits f (fields op f p) ≡ true
fits-fields op (Register o f g) p h = refl
fits-fields op (Immediate o f) p h =
    let n = p.rs2 + 2 ^ 5 * p.funct7 in
    and_from _ _ (and_from _ _ (signed-fits 12 n (λ le. omega (arith, h.rs2, h.funct7, le))) refl) refl
fits-fields op (Shift o f g) p h = and_from _ _ (and_from _ _ (lt-ltb _ 64 (omega (arith, h.rs2))) refl) refl
fits-fields op (Store o f) p h =
    let n = p.rd + 2 ^ 5 * p.funct7 in
    and_from _ _ (and_from _ _ (signed-fits 12 n (λ le. omega (arith, h.rd, h.funct7, le))) refl) refl
fits-fields op (Branch o f) p h =
    let n = branch_offset p.funct7 p.rd in
    let lt : n < 2 ^ 13 = omega (arith, h.rd, h.funct7) in
    let even : n % 2 ≡ 0 = omega arith in
    and_from _ _ (and_from _ _ (and_from _ _ (signed-fits 13 n (λ le. omega (arith, lt, le))) (signed-even 13 n even (omega (arith, lt, even)))) refl) refl
fits-fields op (Upper o) p h = and_from _ _ (and_from _ _ (and_from _ _ (lt-ltb _ (2 ^ 20) (omega (arith, h.funct3, h.rs1, h.rs2, h.funct7))) refl) refl) refl
fits-fields op (Jump o) p h =
    let m = upper_bits p in
    let small : m < 2 ^ 20 = omega (arith, h.funct3, h.rs1, h.rs2, h.funct7) in
    let n = jump_offset m in
    let lt : n < 2 ^ 21 = omega (arith, small) in
    let even : n % 2 ≡ 0 = omega arith in
    and_from _ _ (and_from _ _ (and_from _ _ (and_from _ _ (signed-fits 21 n (λ le. omega (arith, lt, le))) (signed-even 21 n even (omega (arith, lt, even)))) refl) refl) refl
fits-fields op (Atomic o f g) p h = refl
fits-fields op (System o) p h = refl
