-- Decoding finds exactly what encoding made: an instruction from its word, and the word from its
-- instruction.
use Rattle.std.proofs.Common.{◌≡◌, ℕ, zero, suc, ◌+◌, ◌*◌, ◌/◌, ◌%◌, ◌^◌, ◌<◌, List, [], ◌∷◌, Bool, true, false, ◌&&◌, Some, refl, sym, ap, ◌∙◌, subst, arith, lit<}
use Rattle.std.specs.Prelude.{◌==◌, if◌then◌else◌, slice_get}
use Rattle.std.proofs.lemmas.Bool.{eqb-true, eq-eqb}
use Rattle.rv_model.specs.declared.instr.Op.{Op}
use Rattle.rv_model.specs.declared.instr.Op.TheVariants.{Add, Sub, Sll, Slt, Sltu, Xor, Srl, Sra, Or, And, Mul, Mulh, Mulhsu, Mulhu, Div, Divu, Rem, Remu, Addw, Subw, Addi, Slti, Sltiu, Xori, Ori, Andi, Slli, Srli, Srai, Addiw, Ld, Lbu, Jalr, Sd, Beq, Bne, Blt, Bge, Bltu, Bgeu, Lui, Auipc, Jal, AmoaddD, AmoswapD, AmoandD, AmocasD, Ecall}
use Rattle.rv_model.specs.declared.instr.Instr.{Instr}
use Rattle.rv_model.specs.Word.{bit}
use Rattle.rv_model.specs.Format.{Format, Register, Immediate, Shift, Store, Branch, Upper, Jump, Atomic, System, Parts, parts_of, low, parts, fields, fits}
use Rattle.rv_model.specs.Table.{format, ops, bits_of, read_as, decoded, decoded_among, IsWellFormed}
use Rattle.rv_model.proofs.Fields.{IsFixed, parts_of-packed, packed-below, parts_of-range, parts-range, fields-parts, fits-fields}

-- the fixed bits of each operation are in range
pub format-fixed : (op : Op) → IsFixed (format op)
format-fixed Add = (lit< tt, lit< tt, lit< tt)
format-fixed Sub = (lit< tt, lit< tt, lit< tt)
format-fixed Sll = (lit< tt, lit< tt, lit< tt)
format-fixed Slt = (lit< tt, lit< tt, lit< tt)
format-fixed Sltu = (lit< tt, lit< tt, lit< tt)
format-fixed Xor = (lit< tt, lit< tt, lit< tt)
format-fixed Srl = (lit< tt, lit< tt, lit< tt)
format-fixed Sra = (lit< tt, lit< tt, lit< tt)
format-fixed Or = (lit< tt, lit< tt, lit< tt)
format-fixed And = (lit< tt, lit< tt, lit< tt)
format-fixed Mul = (lit< tt, lit< tt, lit< tt)
format-fixed Mulh = (lit< tt, lit< tt, lit< tt)
format-fixed Mulhsu = (lit< tt, lit< tt, lit< tt)
format-fixed Mulhu = (lit< tt, lit< tt, lit< tt)
format-fixed Div = (lit< tt, lit< tt, lit< tt)
format-fixed Divu = (lit< tt, lit< tt, lit< tt)
format-fixed Rem = (lit< tt, lit< tt, lit< tt)
format-fixed Remu = (lit< tt, lit< tt, lit< tt)
format-fixed Addw = (lit< tt, lit< tt, lit< tt)
format-fixed Subw = (lit< tt, lit< tt, lit< tt)
format-fixed Addi = (lit< tt, lit< tt)
format-fixed Slti = (lit< tt, lit< tt)
format-fixed Sltiu = (lit< tt, lit< tt)
format-fixed Xori = (lit< tt, lit< tt)
format-fixed Ori = (lit< tt, lit< tt)
format-fixed Andi = (lit< tt, lit< tt)
format-fixed Slli = (lit< tt, lit< tt, lit< tt)
format-fixed Srli = (lit< tt, lit< tt, lit< tt)
format-fixed Srai = (lit< tt, lit< tt, lit< tt)
format-fixed Addiw = (lit< tt, lit< tt)
format-fixed Ld = (lit< tt, lit< tt)
format-fixed Lbu = (lit< tt, lit< tt)
format-fixed Jalr = (lit< tt, lit< tt)
format-fixed Sd = (lit< tt, lit< tt)
format-fixed Beq = (lit< tt, lit< tt)
format-fixed Bne = (lit< tt, lit< tt)
format-fixed Blt = (lit< tt, lit< tt)
format-fixed Bge = (lit< tt, lit< tt)
format-fixed Bltu = (lit< tt, lit< tt)
format-fixed Bgeu = (lit< tt, lit< tt)
format-fixed Lui = lit< tt
format-fixed Auipc = lit< tt
format-fixed Jal = lit< tt
format-fixed AmoaddD = (lit< tt, lit< tt, lit< tt)
format-fixed AmoswapD = (lit< tt, lit< tt, lit< tt)
format-fixed AmoandD = (lit< tt, lit< tt, lit< tt)
format-fixed AmocasD = (lit< tt, lit< tt, lit< tt)
format-fixed Ecall = lit< tt

-- a word has a format's fixed bits
abbrev pub has_bits : Format → Parts → Bool
has_bits (Register o f g) p = (p.opcode == o) && (p.funct3 == f) && (p.funct7 == g)
has_bits (Immediate o f) p = (p.opcode == o) && (p.funct3 == f)
has_bits (Shift o f g) p = (p.opcode == o) && (p.funct3 == f) && (p.funct7 / 2 == g)
has_bits (Store o f) p = (p.opcode == o) && (p.funct3 == f)
has_bits (Branch o f) p = (p.opcode == o) && (p.funct3 == f)
has_bits (Upper o) p = p.opcode == o
has_bits (Jump o) p = p.opcode == o
has_bits (Atomic o f g) p = (p.opcode == o) && (p.funct3 == f) && (p.funct7 / 4 == g)
has_bits (System o) p = p.opcode == o

-- the first of these operations whose fixed bits a word has
first_with : List Op → Parts → Op
first_with [] p = Ecall
first_with (op ∷ rest) p = if has_bits (format op) p then op else first_with rest p

op_of : Parts → Op
op_of p = first_with ops p

of_slli : (rd rs1 rs2 x : ℕ) → x < 2 → op_of (record { opcode = 0b0010011; rd = rd; funct3 = 1; rs1 = rs1; rs2 = rs2; funct7 = 0 * 2 + x }) ≡ Slli
unfolding op_of first_with
of_slli rd rs1 rs2 zero lt = refl
of_slli rd rs1 rs2 (suc zero) lt = refl
of_slli rd rs1 rs2 (suc (suc x)) lt = absurd (omega (arith, lt))

of_srli : (rd rs1 rs2 x : ℕ) → x < 2 → op_of (record { opcode = 0b0010011; rd = rd; funct3 = 5; rs1 = rs1; rs2 = rs2; funct7 = 0 * 2 + x }) ≡ Srli
unfolding op_of first_with
of_srli rd rs1 rs2 zero lt = refl
of_srli rd rs1 rs2 (suc zero) lt = refl
of_srli rd rs1 rs2 (suc (suc x)) lt = absurd (omega (arith, lt))

of_srai : (rd rs1 rs2 x : ℕ) → x < 2 → op_of (record { opcode = 0b0010011; rd = rd; funct3 = 5; rs1 = rs1; rs2 = rs2; funct7 = 16 * 2 + x }) ≡ Srai
unfolding op_of first_with
of_srai rd rs1 rs2 zero lt = refl
of_srai rd rs1 rs2 (suc zero) lt = refl
of_srai rd rs1 rs2 (suc (suc x)) lt = absurd (omega (arith, lt))

of_amoaddd : (rd rs1 rs2 : ℕ) (a b : Bool) → op_of (record { opcode = 0b0101111; rd = rd; funct3 = 3; rs1 = rs1; rs2 = rs2; funct7 = 0 * 4 + bit a * 2 + bit b }) ≡ AmoaddD
unfolding op_of first_with
of_amoaddd rd rs1 rs2 true true = refl
of_amoaddd rd rs1 rs2 true false = refl
of_amoaddd rd rs1 rs2 false true = refl
of_amoaddd rd rs1 rs2 false false = refl

of_amoswapd : (rd rs1 rs2 : ℕ) (a b : Bool) → op_of (record { opcode = 0b0101111; rd = rd; funct3 = 3; rs1 = rs1; rs2 = rs2; funct7 = 1 * 4 + bit a * 2 + bit b }) ≡ AmoswapD
unfolding op_of first_with
of_amoswapd rd rs1 rs2 true true = refl
of_amoswapd rd rs1 rs2 true false = refl
of_amoswapd rd rs1 rs2 false true = refl
of_amoswapd rd rs1 rs2 false false = refl

of_amoandd : (rd rs1 rs2 : ℕ) (a b : Bool) → op_of (record { opcode = 0b0101111; rd = rd; funct3 = 3; rs1 = rs1; rs2 = rs2; funct7 = 12 * 4 + bit a * 2 + bit b }) ≡ AmoandD
unfolding op_of first_with
of_amoandd rd rs1 rs2 true true = refl
of_amoandd rd rs1 rs2 true false = refl
of_amoandd rd rs1 rs2 false true = refl
of_amoandd rd rs1 rs2 false false = refl

of_amocasd : (rd rs1 rs2 : ℕ) (a b : Bool) → op_of (record { opcode = 0b0101111; rd = rd; funct3 = 3; rs1 = rs1; rs2 = rs2; funct7 = 5 * 4 + bit a * 2 + bit b }) ≡ AmocasD
unfolding op_of first_with
of_amocasd rd rs1 rs2 true true = refl
of_amocasd rd rs1 rs2 true false = refl
of_amocasd rd rs1 rs2 false true = refl
of_amocasd rd rs1 rs2 false false = refl

-- the parts of an instruction's word tell its operation
op_of-parts : (op : Op) (i : Instr) → op_of (parts (format op) i) ≡ op
unfolding op_of first_with
op_of-parts Add i = refl
op_of-parts Sub i = refl
op_of-parts Sll i = refl
op_of-parts Slt i = refl
op_of-parts Sltu i = refl
op_of-parts Xor i = refl
op_of-parts Srl i = refl
op_of-parts Sra i = refl
op_of-parts Or i = refl
op_of-parts And i = refl
op_of-parts Mul i = refl
op_of-parts Mulh i = refl
op_of-parts Mulhsu i = refl
op_of-parts Mulhu i = refl
op_of-parts Div i = refl
op_of-parts Divu i = refl
op_of-parts Rem i = refl
op_of-parts Remu i = refl
op_of-parts Addw i = refl
op_of-parts Subw i = refl
op_of-parts Addi i = refl
op_of-parts Slti i = refl
op_of-parts Sltiu i = refl
op_of-parts Xori i = refl
op_of-parts Ori i = refl
op_of-parts Andi i = refl
op_of-parts Slli i = of_slli i.rd i.rs1 (low 6 i.imm % 2 ^ 5) (low 6 i.imm / 2 ^ 5) (omega arith)
op_of-parts Srli i = of_srli i.rd i.rs1 (low 6 i.imm % 2 ^ 5) (low 6 i.imm / 2 ^ 5) (omega arith)
op_of-parts Srai i = of_srai i.rd i.rs1 (low 6 i.imm % 2 ^ 5) (low 6 i.imm / 2 ^ 5) (omega arith)
op_of-parts Addiw i = refl
op_of-parts Ld i = refl
op_of-parts Lbu i = refl
op_of-parts Jalr i = refl
op_of-parts Sd i = refl
op_of-parts Beq i = refl
op_of-parts Bne i = refl
op_of-parts Blt i = refl
op_of-parts Bge i = refl
op_of-parts Bltu i = refl
op_of-parts Bgeu i = refl
op_of-parts Lui i = refl
op_of-parts Auipc i = refl
op_of-parts Jal i = refl
op_of-parts AmoaddD i = of_amoaddd i.rd i.rs1 i.rs2 i.aq i.rl
op_of-parts AmoswapD i = of_amoswapd i.rd i.rs1 i.rs2 i.aq i.rl
op_of-parts AmoandD i = of_amoandd i.rd i.rs1 i.rs2 i.aq i.rl
op_of-parts AmocasD i = of_amocasd i.rd i.rs1 i.rs2 i.aq i.rl
op_of-parts Ecall i = refl

pub fields-op : (op : Op) (f : Format) (p : Parts) → (fields op f p).op ≡ op
fields-op op (Register o f g) p = refl
fields-op op (Immediate o f) p = refl
fields-op op (Shift o f g) p = refl
fields-op op (Store o f) p = refl
fields-op op (Branch o f) p = refl
fields-op op (Upper o) p = refl
fields-op op (Jump o) p = refl
fields-op op (Atomic o f g) p = refl
fields-op op (System o) p = refl

-- registers that are read from a word
fields-registers : (op : Op) (f : Format) (p : Parts) → (p.rd < 32) × (p.rs1 < 32) × (p.rs2 < 32) → ((fields op f p).rd < 32) × ((fields op f p).rs1 < 32) × ((fields op f p).rs2 < 32)
fields-registers op (Register o f g) p h = (h.0, h.1, h.2)
fields-registers op (Immediate o f) p h = (h.0, h.1, lit< tt)
fields-registers op (Shift o f g) p h = (h.0, h.1, lit< tt)
fields-registers op (Store o f) p h = (lit< tt, h.1, h.2)
fields-registers op (Branch o f) p h = (lit< tt, h.1, h.2)
fields-registers op (Upper o) p h = (h.0, lit< tt, lit< tt)
fields-registers op (Jump o) p h = (h.0, lit< tt, lit< tt)
fields-registers op (Atomic o f g) p h = (h.0, h.1, h.2)
fields-registers op (System o) p h = (lit< tt, lit< tt, lit< tt)

-- with registers below 32 the parts of the word are those that were put there
pub parts_of-bits_of : (i : Instr) → i.rd < 32 → i.rs1 < 32 → i.rs2 < 32 → parts_of (bits_of i) ≡ parts (format i.op) i
parts_of-bits_of i d a b = parts_of-packed (parts (format i.op) i) (parts-range (format i.op) i (format-fixed i.op) d a b)

-- the word of an instruction has 32 bits
pub bits_of-below : (i : Instr) → i.rd < 32 → i.rs1 < 32 → i.rs2 < 32 → bits_of i < 2 ^ 32
bits_of-below i d a b = packed-below (parts (format i.op) i) (parts-range (format i.op) i (format-fixed i.op) d a b)

-- two operations don't read one word
op_of-bits_of : (i : Instr) → i.rd < 32 → i.rs1 < 32 → i.rs2 < 32 → op_of (parts_of (bits_of i)) ≡ i.op
op_of-bits_of i d a b = ap op_of (parts_of-bits_of i d a b) ∙ op_of-parts i.op i

pub read_as-registers : (op : Op) (w : ℕ) → ((read_as op w).rd < 32) × ((read_as op w).rs1 < 32) × ((read_as op w).rs2 < 32)
read_as-registers op w = fields-registers op (format op) (parts_of w) (omega arith, omega arith, omega arith)

same_op : (op : Op) (w : ℕ) → bits_of (read_as op w) ≡ w → op_of (parts_of w) ≡ op
same_op op w e =
    let r = read_as-registers op w in
    ap (λ v. op_of (parts_of v)) (sym e) ∙ op_of-bits_of (read_as op w) r.0 r.1 r.2 ∙ fields-op op (format op) (parts_of w)

-- an instruction is read from its word
pub read_as-bits_of : (i : Instr) → IsWellFormed i → read_as i.op (bits_of i) ≡ i
read_as-bits_of i h = ap (fields i.op (format i.op)) (parts_of-bits_of i h.0 h.1 h.2) ∙ fields-parts i.op (format i.op) i refl h.3

-- where an operation stands in the table
pub number : Op → ℕ
number Add = 0
number Sub = 1
number Sll = 2
number Slt = 3
number Sltu = 4
number Xor = 5
number Srl = 6
number Sra = 7
number Or = 8
number And = 9
number Mul = 10
number Mulh = 11
number Mulhsu = 12
number Mulhu = 13
number Div = 14
number Divu = 15
number Rem = 16
number Remu = 17
number Addw = 18
number Subw = 19
number Addi = 20
number Slti = 21
number Sltiu = 22
number Xori = 23
number Ori = 24
number Andi = 25
number Slli = 26
number Srli = 27
number Srai = 28
number Addiw = 29
number Ld = 30
number Lbu = 31
number Jalr = 32
number Sd = 33
number Beq = 34
number Bne = 35
number Blt = 36
number Bge = 37
number Bltu = 38
number Bgeu = 39
number Lui = 40
number Auipc = 41
number Jal = 42
number AmoaddD = 43
number AmoswapD = 44
number AmoandD = 45
number AmocasD = 46
number Ecall = 47

pub ops-number : (op : Op) → slice_get ops (number op) ≡ Some op
unfolding number
ops-number Add = refl
ops-number Sub = refl
ops-number Sll = refl
ops-number Slt = refl
ops-number Sltu = refl
ops-number Xor = refl
ops-number Srl = refl
ops-number Sra = refl
ops-number Or = refl
ops-number And = refl
ops-number Mul = refl
ops-number Mulh = refl
ops-number Mulhsu = refl
ops-number Mulhu = refl
ops-number Div = refl
ops-number Divu = refl
ops-number Rem = refl
ops-number Remu = refl
ops-number Addw = refl
ops-number Subw = refl
ops-number Addi = refl
ops-number Slti = refl
ops-number Sltiu = refl
ops-number Xori = refl
ops-number Ori = refl
ops-number Andi = refl
ops-number Slli = refl
ops-number Srli = refl
ops-number Srai = refl
ops-number Addiw = refl
ops-number Ld = refl
ops-number Lbu = refl
ops-number Jalr = refl
ops-number Sd = refl
ops-number Beq = refl
ops-number Bne = refl
ops-number Blt = refl
ops-number Bge = refl
ops-number Bltu = refl
ops-number Bgeu = refl
ops-number Lui = refl
ops-number Auipc = refl
ops-number Jal = refl
ops-number AmoaddD = refl
ops-number AmoswapD = refl
ops-number AmoandD = refl
ops-number AmocasD = refl
ops-number Ecall = refl

-- among operations with that of the instruction
decoded_among-bits_of : (i : Instr) → IsWellFormed i → (l : List Op) (k : ℕ) → slice_get l k ≡ Some i.op → decoded_among l (bits_of i) ≡ Some i
unfolding decoded_among
decoded_among-bits_of i h [] k at = absurd (cc)
decoded_among-bits_of i h (op ∷ rest) zero at = ap (λ b. if b then Some (read_as op (bits_of i)) else decoded_among rest (bits_of i)) (eq-eqb _ _ (ap bits_of is)) ∙ ap Some is
  where
    some_is : (a b : Op) → Some a ≡ Some b → a ≡ b
    some_is a b e = cc

    is : read_as op (bits_of i) ≡ i
    is = ap (λ o. read_as o (bits_of i)) (some_is op i.op at) ∙ read_as-bits_of i h
decoded_among-bits_of i h (op ∷ rest) (suc k) at = by (decoded_among-bits_of i h rest k at) (bits_of (read_as op (bits_of i)) == bits_of i) refl
  where
    by : decoded_among rest (bits_of i) ≡ Some i → (b : Bool) → (bits_of (read_as op (bits_of i)) == bits_of i) ≡ b → (if b then Some (read_as op (bits_of i)) else decoded_among rest (bits_of i)) ≡ Some i
    by later true e =
        let is : op ≡ i.op = sym (same_op op (bits_of i) (eqb-true _ _ e)) ∙ op_of-bits_of i h.0 h.1 h.2 in
        ap Some (ap (λ o. read_as o (bits_of i)) is ∙ read_as-bits_of i h)
    by later false e = later

-- a well-formed instruction is decoded from its word
pub decoded-bits_of : (i : Instr) → IsWellFormed i → decoded (bits_of i) ≡ Some i
decoded-bits_of i h = decoded_among-bits_of i h ops (number i.op) (ops-number i.op)

bits_of-decoded_among : (l : List Op) (w : ℕ) (i : Instr) → decoded_among l w ≡ Some i → (op : Op) × (read_as op w ≡ i) × (bits_of i ≡ w)
unfolding decoded_among
bits_of-decoded_among [] w i e = absurd (cc)
bits_of-decoded_among (op ∷ rest) w i e = by (bits_of-decoded_among rest w i) (bits_of (read_as op w) == w) refl e
  where
    some_is : (a b : Instr) → Some a ≡ Some b → a ≡ b
    some_is a b s = cc

    by : (decoded_among rest w ≡ Some i → (o : Op) × (read_as o w ≡ i) × (bits_of i ≡ w)) → (b : Bool) → (bits_of (read_as op w) == w) ≡ b → (if b then Some (read_as op w) else decoded_among rest w) ≡ Some i → (o : Op) × (read_as o w ≡ i) × (bits_of i ≡ w)
    by later true t s = let is = some_is (read_as op w) i s in (op, is, ap bits_of (sym is) ∙ eqb-true _ _ t)
    by later false t s = later s

-- what is decoded has the word that it was decoded from
pub bits_of-decoded : (w : ℕ) (i : Instr) → decoded w ≡ Some i → bits_of i ≡ w
bits_of-decoded w i e = (bits_of-decoded_among ops w i e).2

-- what is decoded is well-formed
pub decoded-well_formed : (w : ℕ) (i : Instr) → decoded w ≡ Some i → IsWellFormed i
decoded-well_formed w i e =
    let x = bits_of-decoded_among ops w i e in
    let r = read_as-registers x.0 w in
    let word : bits_of (read_as x.0 w) ≡ w = ap bits_of x.1 ∙ x.2 in
    let range = parts_of-range w (subst (λ v. v < 2 ^ 32) word (bits_of-below (read_as x.0 w) r.0 r.1 r.2)) in
    let fit : fits (format (read_as x.0 w).op) (read_as x.0 w) ≡ true =
    ap (λ op. fits (format op) (read_as x.0 w)) (fields-op x.0 (format x.0) (parts_of w)) ∙ fits-fields x.0 (format x.0) (parts_of w) range in
    subst IsWellFormed x.1 (r.0, r.1, r.2, fit)
