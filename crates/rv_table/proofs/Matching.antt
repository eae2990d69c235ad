-- A word has the bits of an operation's row exactly where it is the word of the instruction that the
-- operation reads in it.
use Rattle.std.proofs.Common.{◌≡◌, ℕ, ◌+◌, ◌-◌, ◌*◌, ◌/◌, ◌%◌, ◌^◌, ◌<◌, pos, negsuc, Bool, true, false, refl, sym, ap, ◌∙◌, subst, arith}
use Rattle.std.specs.Prelude.{◌==◌, nat_lt, if◌then◌else◌, bit_and}
use Rattle.std.proofs.lemmas.Bool.{eqb-true, eqb-false}
use Rattle.rv_model.specs.declared.instr.Op.{Op}
use Rattle.rv_model.specs.declared.instr.Instr.{Instr}
use Rattle.rv_model.specs.Word.{bit}
use Rattle.rv_model.specs.Format.{Format, Register, Immediate, Shift, Store, Branch, Upper, Jump, Atomic, System, Parts, packed, parts_of, low, signed, branch_above, branch_below, branch_offset, jump_bits, jump_offset, upper_parts, upper_bits, parts, fields}
use Rattle.rv_model.specs.Table.{format, bits_of, read_as}
use Rattle.rv_model.proofs.Fields.{InRange, IsFixed, packed-parts_of, parts_of-range, bit-below}
use Rattle.rv_model.proofs.Decoding.{format-fixed, fields-op, read_as-registers, parts_of-bits_of}
use Rattle.rv_table.specs.Rows.{mask_of, fixed_of, row_of, has_bits}
use Rattle.rv_table.proofs.Masks.{and_opcode, and_funct3, and_funct7, and_funct6, and_funct5, and_word}

-- the parts of a word hold a format's fixed bits
abbrev HasFixed : Format → Parts → Type 0
HasFixed (Register o f g) p = (p.opcode ≡ o) × (p.funct3 ≡ f) × (p.funct7 ≡ g)
HasFixed (Immediate o f) p = (p.opcode ≡ o) × (p.funct3 ≡ f)
HasFixed (Shift o f g) p = (p.opcode ≡ o) × (p.funct3 ≡ f) × (p.funct7 / 2 ≡ g)
HasFixed (Store o f) p = (p.opcode ≡ o) × (p.funct3 ≡ f)
HasFixed (Branch o f) p = (p.opcode ≡ o) × (p.funct3 ≡ f)
HasFixed (Upper o) p = p.opcode ≡ o
HasFixed (Jump o) p = p.opcode ≡ o
HasFixed (Atomic o f g) p = (p.opcode ≡ o) × (p.funct3 ≡ f) × (p.funct7 / 4 ≡ g)
HasFixed (System o) p = (p.opcode ≡ o) × (p.rd ≡ 0) × (p.funct3 ≡ 0) × (p.rs1 ≡ 0) × (p.rs2 ≡ 0) × (p.funct7 ≡ 0)

-- the parts that an instruction makes hold them
parts-has : (f : Format) (i : Instr) → HasFixed f (parts f i)
parts-has (Register o f g) i = (refl, refl, refl)
parts-has (Immediate o f) i = (refl, refl)
parts-has (Shift o f g) i = (refl, refl, omega arith)
parts-has (Store o f) i = (refl, refl)
parts-has (Branch o f) i = (refl, refl)
parts-has (Upper o) i = refl
parts-has (Jump o) i = refl
parts-has (Atomic o f g) i = (refl, refl, omega (arith, bit-below i.aq, bit-below i.rl))
parts-has (System o) i = (refl, refl, refl, refl, refl, refl)

-- the low bits of an integer are the number that it was made of
low-signed_12 : (n : ℕ) → n < 2 ^ 12 → low 12 (signed 12 n) ≡ n
low-signed_12 n h = by (nat_lt n (2 ^ 11)) refl
  where
    by : (b : Bool) → nat_lt n (2 ^ 11) ≡ b → low 12 (if b then pos n else negsuc (2 ^ 12 - 1 - n)) ≡ n
    by true e = omega (arith, h)
    by false e = omega (arith, h)

low-signed_13 : (n : ℕ) → n < 2 ^ 13 → low 13 (signed 13 n) ≡ n
low-signed_13 n h = by (nat_lt n (2 ^ 12)) refl
  where
    by : (b : Bool) → nat_lt n (2 ^ 12) ≡ b → low 13 (if b then pos n else negsuc (2 ^ 13 - 1 - n)) ≡ n
    by true e = omega (arith, h)
    by false e = omega (arith, h)

low-signed_21 : (n : ℕ) → n < 2 ^ 21 → low 21 (signed 21 n) ≡ n
low-signed_21 n h = by (nat_lt n (2 ^ 20)) refl
  where
    by : (b : Bool) → nat_lt n (2 ^ 20) ≡ b → low 21 (if b then pos n else negsuc (2 ^ 21 - 1 - n)) ≡ n
    by true e = omega (arith, h)
    by false e = omega (arith, h)

branch_above-offset : (a b : ℕ) → a < 2 ^ 7 → b < 2 ^ 5 → branch_above (branch_offset a b) ≡ a
branch_above-offset a b h k = omega (arith, h, k)

branch_below-offset : (a b : ℕ) → a < 2 ^ 7 → b < 2 ^ 5 → branch_below (branch_offset a b) ≡ b
branch_below-offset a b h k = omega (arith, h, k)

branch_offset-below : (a b : ℕ) → a < 2 ^ 7 → b < 2 ^ 5 → branch_offset a b < 2 ^ 13
branch_offset-below a b h k = omega (arith, h, k)

jump_bits-offset : (m : ℕ) → m < 2 ^ 20 → jump_bits (jump_offset m) ≡ m
jump_bits-offset m h = omega (arith, h)

jump_offset-below : (m : ℕ) → m < 2 ^ 20 → jump_offset m < 2 ^ 21
jump_offset-below m h = omega (arith, h)

upper_bits-below : (p : Parts) → InRange p → upper_bits p < 2 ^ 20
upper_bits-below p h = omega (arith, h.funct3, h.rs1, h.rs2, h.funct7)

-- an order bit is read and written
bit-odd : (n : ℕ) → bit (n % 2 == 1) ≡ n % 2
bit-odd n = by (n % 2 == 1) refl
  where
    by : (b : Bool) → (n % 2 == 1) ≡ b → bit b ≡ n % 2
    by true e = sym (eqb-true (n % 2) 1 e)
    by false e = let ne = eqb-false (n % 2) 1 e in omega (arith, ne)

same_parts : (p q : Parts) → p.opcode ≡ q.opcode → p.rd ≡ q.rd → p.funct3 ≡ q.funct3 → p.rs1 ≡ q.rs1 → p.rs2 ≡ q.rs2 → p.funct7 ≡ q.funct7 → p ≡ q
same_parts p q o d f a b g = λ j. record { opcode = o j; rd = d j; funct3 = f j; rs1 = a j; rs2 = b j; funct7 = g j }

upper_parts-bits : (o m : ℕ) (p : Parts) → InRange p → p.opcode ≡ o → m ≡ upper_bits p → upper_parts o p.rd m ≡ p
upper_parts-bits o m p h e is = same_parts _ p (sym e) refl (omega (arith, h.funct3, h.rs1, h.rs2, h.funct7, is)) (omega (arith, h.funct3, h.rs1, h.rs2, h.funct7, is)) (omega (arith, h.funct3, h.rs1, h.rs2, h.funct7, is)) (omega (arith, h.funct3, h.rs1, h.rs2, h.funct7, is))

-- what is read in parts with the fixed bits has these parts
parts-fields : (op : Op) (f : Format) (p : Parts) → InRange p → HasFixed f p → parts f (fields op f p) ≡ p
parts-fields op (Register o f g) p r h = same_parts _ p (sym h.0) refl (sym h.1) refl refl (sym h.2)
parts-fields op (Immediate o f) p r h =
    let n = p.rs2 + 2 ^ 5 * p.funct7 in
    let e = low-signed_12 n (omega (arith, r.rs2, r.funct7)) in
    same_parts _ p (sym h.0) refl (sym h.1) refl (ap (λ m. m % 2 ^ 5) e ∙ omega (arith, r.rs2)) (ap (λ m. m / 2 ^ 5) e ∙ omega (arith, r.rs2))
parts-fields op (Shift o f g) p r h =
    same_parts _ p (sym h.0) refl (sym h.1) refl (omega (arith, r.rs2)) (omega (arith, r.rs2, h.2))
parts-fields op (Store o f) p r h =
    let n = p.rd + 2 ^ 5 * p.funct7 in
    let e = low-signed_12 n (omega (arith, r.rd, r.funct7)) in
    same_parts _ p (sym h.0) (ap (λ m. m % 2 ^ 5) e ∙ omega (arith, r.rd)) (sym h.1) refl refl (ap (λ m. m / 2 ^ 5) e ∙ omega (arith, r.rd))
parts-fields op (Branch o f) p r h =
    let e = low-signed_13 (branch_offset p.funct7 p.rd) (branch_offset-below p.funct7 p.rd r.funct7 r.rd) in
    same_parts _ p (sym h.0) (ap branch_below e ∙ branch_below-offset p.funct7 p.rd r.funct7 r.rd) (sym h.1) refl refl (ap branch_above e ∙ branch_above-offset p.funct7 p.rd r.funct7 r.rd)
parts-fields op (Upper o) p r h =
    let lt = upper_bits-below p r in
    let e : low 20 (pos (upper_bits p)) ≡ upper_bits p = omega (arith, lt) in
    upper_parts-bits o (low 20 (pos (upper_bits p))) p r h e
parts-fields op (Jump o) p r h =
    let lt = upper_bits-below p r in
    let e = ap jump_bits (low-signed_21 (jump_offset (upper_bits p)) (jump_offset-below (upper_bits p) lt)) ∙ jump_bits-offset (upper_bits p) lt in
    upper_parts-bits o _ p r h e
parts-fields op (Atomic o f g) p r h =
    same_parts _ p (sym h.0) refl (sym h.1) refl refl (ap (λ n. g * 4 + n * 2 + bit (p.funct7 % 2 == 1)) (bit-odd (p.funct7 / 2)) ∙ ap (λ n. g * 4 + p.funct7 / 2 % 2 * 2 + n) (bit-odd p.funct7) ∙ omega (arith, h.2))
parts-fields op (System o) p r h = same_parts _ p (sym h.0) (sym h.1) (sym h.2) (sym h.3) (sym h.4) (sym h.5)

-- the word under the mask
has-masked : (f : Format) (w : ℕ) → IsFixed f → w < 2 ^ 32 → HasFixed f (parts_of w) → bit_and w (mask_of f) ≡ fixed_of f
has-masked (Register o f g) w k lt h = and_funct7 w ∙ omega (arith, h.0, h.1, h.2, lt)
has-masked (Immediate o f) w k lt h = and_funct3 w ∙ omega (arith, h.0, h.1)
has-masked (Shift o f g) w k lt h = and_funct6 w ∙ omega (arith, h.0, h.1, h.2, lt)
has-masked (Store o f) w k lt h = and_funct3 w ∙ omega (arith, h.0, h.1)
has-masked (Branch o f) w k lt h = and_funct3 w ∙ omega (arith, h.0, h.1)
has-masked (Upper o) w k lt h = and_opcode w ∙ h
has-masked (Jump o) w k lt h = and_opcode w ∙ h
has-masked (Atomic o f g) w k lt h = and_funct5 w ∙ omega (arith, h.0, h.1, h.2, lt)
has-masked (System o) w k lt h = and_word w ∙ omega (arith, h.0, h.1, h.2, h.3, h.4, h.5, lt)

masked-has : (f : Format) (w : ℕ) → IsFixed f → w < 2 ^ 32 → bit_and w (mask_of f) ≡ fixed_of f → HasFixed f (parts_of w)
masked-has (Register o f g) w k lt h = let e = sym (and_funct7 w) ∙ h in (omega (arith, e, k.0, k.1, k.2), omega (arith, e, k.0, k.1, k.2), omega (arith, e, k.0, k.1, k.2, lt))
masked-has (Immediate o f) w k lt h = let e = sym (and_funct3 w) ∙ h in (omega (arith, e, k.0, k.1), omega (arith, e, k.0, k.1))
masked-has (Shift o f g) w k lt h = let e = sym (and_funct6 w) ∙ h in (omega (arith, e, k.0, k.1, k.2), omega (arith, e, k.0, k.1, k.2), omega (arith, e, k.0, k.1, k.2, lt))
masked-has (Store o f) w k lt h = let e = sym (and_funct3 w) ∙ h in (omega (arith, e, k.0, k.1), omega (arith, e, k.0, k.1))
masked-has (Branch o f) w k lt h = let e = sym (and_funct3 w) ∙ h in (omega (arith, e, k.0, k.1), omega (arith, e, k.0, k.1))
masked-has (Upper o) w k lt h = sym (and_opcode w) ∙ h
masked-has (Jump o) w k lt h = sym (and_opcode w) ∙ h
masked-has (Atomic o f g) w k lt h = let e = sym (and_funct5 w) ∙ h in (omega (arith, e, k.0, k.1, k.2), omega (arith, e, k.0, k.1, k.2), omega (arith, e, k.0, k.1, k.2, lt))
masked-has (System o) w k lt h =
    let e = sym (and_word w) ∙ h in
    (omega (arith, e, k, lt), omega (arith, e, k, lt), omega (arith, e, k, lt), omega (arith, e, k, lt), omega (arith, e, k, lt), omega (arith, e, k, lt))

-- two tests of equations of which each gives the other
same_test : (a b c d : ℕ) → (a ≡ b → c ≡ d) → (c ≡ d → a ≡ b) → (a == b) ≡ (c == d)
same_test a b c d f g = by (a == b) refl (c == d) refl
  where
    by : (x : Bool) → (a == b) ≡ x → (y : Bool) → (c == d) ≡ y → x ≡ y
    by true e true e' = refl
    by false e false e' = refl
    by true e false e' = absurd (eqb-false c d e' (f (eqb-true a b e)))
    by false e true e' = absurd (eqb-false a b e (g (eqb-true c d e')))

-- the instruction that an operation reads in a word has just this word, exactly where the word has the row's bits
pub has_bits-row : (op : Op) (w : ℕ) → w < 2 ^ 32 → has_bits w (row_of op) ≡ (bits_of (read_as op w) == w)
has_bits-row op w lt = same_test (bit_and w (mask_of (format op))) (fixed_of (format op)) (bits_of (read_as op w)) w there back
  where
    same_op : format (read_as op w).op ≡ format op
    same_op = ap format (fields-op op (format op) (parts_of w))

    there : bit_and w (mask_of (format op)) ≡ fixed_of (format op) → bits_of (read_as op w) ≡ w
    there h =
        ap (λ f. packed (parts f (read_as op w))) same_op
        ∙ ap packed (parts-fields op (format op) (parts_of w) (parts_of-range w lt) (masked-has (format op) w (format-fixed op) lt h))
        ∙ packed-parts_of w

    back : bits_of (read_as op w) ≡ w → bit_and w (mask_of (format op)) ≡ fixed_of (format op)
    back e =
        let r = read_as-registers op w in
        let whole : parts_of w ≡ parts (format op) (read_as op w) = ap parts_of (sym e) ∙ parts_of-bits_of (read_as op w) r.0 r.1 r.2 ∙ ap (λ f. parts f (read_as op w)) same_op in
        has-masked (format op) w (format-fixed op) lt (subst (HasFixed (format op)) (sym whole) (parts-has (format op) (read_as op w)))
