-- Worked steps: one instruction of a hart over three words. They hold by computation.
use Rattle.std.proofs.Common.{◌≡◌, ℕ, ◌-◌, ◌^◌, ℤ, pos, negsuc, false, List, [], ◌∷◌, Option, Some, None, refl}
use Rattle.rv_model.specs.declared.instr.Op.{Op}
use Rattle.rv_model.specs.declared.instr.Op.TheVariants.{Addi, Ld, Lbu, Jalr, Sd, Beq, Lui, Auipc, Jal, AmoaddD, AmoswapD, AmoandD, AmocasD, Ecall}
use Rattle.rv_model.specs.declared.instr.Instr.{Instr}
use Rattle.rv_model.specs.Machine.{Words, Hart, Move, Goes, Waits, Stopped, Fault, put, words_of, words_after, plan, step, next}

abbrev instr : Op → ℕ → ℕ → ℕ → ℤ → Instr
instr op rd rs1 rs2 imm = record { op = op; rd = rd; rs1 = rs1; rs2 = rs2; imm = imm; aq = false; rl = false }

-- a hart at the second instruction, with these values of x5, x6 and x7
abbrev hart : ℕ → ℕ → ℕ → Hart
hart d a b = record { pc = 4; regs = put (put (put (λ k. 0) 5 d) 6 a) 7 b; retired = 7 }

abbrev words : Words
words = words_of (0 ∷ 0x8877665544332211 ∷ 0xFFFFFFFFFFFFFFFF ∷ [])

abbrev code : Instr → List Instr
code i = instr Addi 0 0 0 (pos 0) ∷ i ∷ []

-- the pc, x5 and the count of a hart that goes on
abbrev seen : Move → Option (ℕ × ℕ × ℕ)
seen (Goes h) = Some (h.pc, h.regs 5, h.retired)
seen Waits = None
seen Stopped = None
seen Fault = None

-- the pc, x5 and the count after an instruction
abbrev does : Instr → Hart → Option (ℕ × ℕ × ℕ)
does i h = seen (step 3 (code i) h words)

-- the words after an instruction
abbrev leaves : Instr → Hart → List ℕ
leaves i h = let w = words_after (plan 3 (code i) h) words in w 0 ∷ w 1 ∷ w 2 ∷ []

-- loads

pub ld_word : does (instr Ld 5 6 0 (negsuc 7)) (hart 0 16 0) ≡ Some (8, 0x8877665544332211, 8)
ld_word = refl

pub lbu_third_byte : does (instr Lbu 5 6 0 (pos 3)) (hart 0 8 0) ≡ Some (8, 0x44, 8)
lbu_third_byte = refl

pub lbu_without_sign : does (instr Lbu 5 6 0 (pos 7)) (hart 0 16 0) ≡ Some (8, 0xFF, 8)
lbu_without_sign = refl

-- a load into register 0 is forgotten
pub ld_to_zero : does (instr Ld 0 6 0 (pos 0)) (hart 9 8 0) ≡ Some (8, 9, 8)
ld_to_zero = refl

pub ld_misaligned : step 3 (code (instr Ld 5 6 0 (pos 1))) (hart 0 8 0) words ≡ Fault
ld_misaligned = refl

pub ld_past_the_words : step 3 (code (instr Ld 5 6 0 (pos 0))) (hart 0 24 0) words ≡ Fault
ld_past_the_words = refl

pub ld_below_zero : step 3 (code (instr Ld 5 6 0 (negsuc 7))) (hart 0 0 0) words ≡ Fault
ld_below_zero = refl

pub lbu_last_byte : does (instr Lbu 5 6 0 (pos 0)) (hart 0 23 0) ≡ Some (8, 0xFF, 8)
lbu_last_byte = refl

pub lbu_past_the_words : step 3 (code (instr Lbu 5 6 0 (pos 0))) (hart 0 24 0) words ≡ Fault
lbu_past_the_words = refl

-- stores

pub sd_leaves : leaves (instr Sd 0 6 7 (pos 8)) (hart 9 8 77) ≡ 0 ∷ 0x8877665544332211 ∷ 77 ∷ []
sd_leaves = refl

pub sd_goes_on : does (instr Sd 0 6 7 (pos 8)) (hart 9 8 77) ≡ Some (8, 9, 8)
sd_goes_on = refl

pub sd_misaligned : step 3 (code (instr Sd 0 6 7 (pos 4))) (hart 9 8 77) words ≡ Fault
sd_misaligned = refl

pub sd_past_the_words : step 3 (code (instr Sd 0 6 7 (pos 0))) (hart 9 24 77) words ≡ Fault
sd_past_the_words = refl

-- atomic operations: `rd` gets the word as it was

pub amoadd_wraps : leaves (instr AmoaddD 5 6 7 (pos 0)) (hart 0 16 3) ≡ 0 ∷ 0x8877665544332211 ∷ 2 ∷ []
amoadd_wraps = refl

pub amoadd_answer : does (instr AmoaddD 5 6 7 (pos 0)) (hart 0 16 3) ≡ Some (8, 0xFFFFFFFFFFFFFFFF, 8)
amoadd_answer = refl

pub amoswap_leaves : leaves (instr AmoswapD 5 6 7 (pos 0)) (hart 0 16 3) ≡ 0 ∷ 0x8877665544332211 ∷ 3 ∷ []
amoswap_leaves = refl

pub amoand_leaves : leaves (instr AmoandD 5 6 7 (pos 0)) (hart 0 8 0xFFFF) ≡ 0 ∷ 0x2211 ∷ 0xFFFFFFFFFFFFFFFF ∷ []
amoand_leaves = refl

pub amocas_succeeds : leaves (instr AmocasD 5 6 7 (pos 0)) (hart 0x8877665544332211 8 3) ≡ 0 ∷ 3 ∷ 0xFFFFFFFFFFFFFFFF ∷ []
amocas_succeeds = refl

pub amocas_success_answer : does (instr AmocasD 5 6 7 (pos 0)) (hart 0x8877665544332211 8 3) ≡ Some (8, 0x8877665544332211, 8)
amocas_success_answer = refl

pub amocas_fails : leaves (instr AmocasD 5 6 7 (pos 0)) (hart 1 8 3) ≡ 0 ∷ 0x8877665544332211 ∷ 0xFFFFFFFFFFFFFFFF ∷ []
amocas_fails = refl

pub amocas_failure_answer : does (instr AmocasD 5 6 7 (pos 0)) (hart 1 8 3) ≡ Some (8, 0x8877665544332211, 8)
amocas_failure_answer = refl

-- with x0 as `rd` the expected value is 0
pub amocas_expects_zero : leaves (instr AmocasD 0 6 7 (pos 0)) (hart 1 0 3) ≡ 3 ∷ 0x8877665544332211 ∷ 0xFFFFFFFFFFFFFFFF ∷ []
amocas_expects_zero = refl

pub amo_misaligned : step 3 (code (instr AmoaddD 5 6 7 (pos 0))) (hart 0 12 3) words ≡ Fault
amo_misaligned = refl

pub amo_past_the_words : step 3 (code (instr AmocasD 5 6 7 (pos 0))) (hart 0 24 3) words ≡ Fault
amo_past_the_words = refl

-- jumps and the pc

pub jal_links : does (instr Jal 5 0 0 (negsuc 3)) (hart 0 0 0) ≡ Some (0, 8, 8)
jal_links = refl

-- the target is computed before the link is written
pub jalr_links : does (instr Jalr 5 5 0 (pos 1)) (hart 0x1000 0 0) ≡ Some (0x1000, 8, 8)
jalr_links = refl

pub beq_back : does (instr Beq 0 6 7 (negsuc 3)) (hart 9 3 3) ≡ Some (0, 9, 8)
beq_back = refl

pub beq_falls_through : does (instr Beq 0 6 7 (negsuc 3)) (hart 9 3 4) ≡ Some (8, 9, 8)
beq_falls_through = refl

pub branch_below_zero_wraps : does (instr Beq 0 0 0 (negsuc 7)) (hart 9 3 4) ≡ Some (0xFFFFFFFFFFFFFFFC, 9, 8)
branch_below_zero_wraps = refl

pub lui_sets : does (instr Lui 5 0 0 (pos 0x80000)) (hart 0 0 0) ≡ Some (8, 0xFFFFFFFF80000000, 8)
lui_sets = refl

pub auipc_adds : does (instr Auipc 5 0 0 (pos 0xFFFFF)) (hart 0 0 0) ≡ Some (8, 0xFFFFFFFFFFFFF004, 8)
auipc_adds = refl

pub next_wraps : next (record { pc = 2 ^ 64 - 4; regs = λ k. 0; retired = 0 }) ≡ 0
next_wraps = refl

pub pc_misaligned : step 3 (code (instr Addi 5 0 0 (pos 1))) (record { pc = 2; regs = λ k. 0; retired = 0 }) words ≡ Fault
pc_misaligned = refl

pub pc_past_the_code : step 3 (code (instr Addi 5 0 0 (pos 1))) (record { pc = 8; regs = λ k. 0; retired = 0 }) words ≡ Fault
pc_past_the_code = refl

-- environment calls

-- a hart at ECALL with these values of x10, x11 and x17
abbrev caller : ℕ → ℕ → ℕ → Hart
caller a b n = record { pc = 4; regs = put (put (put (λ k. 0) 10 a) 11 b) 17 n; retired = 7 }

abbrev calls : Hart → Move
calls h = step 3 (code (instr Ecall 0 0 0 (pos 0))) h words

pub stop : calls (caller 8 0 0) ≡ Stopped
stop = refl

pub await_waits : calls (caller 8 0x8877665544332211 1) ≡ Waits
await_waits = refl

-- the pc, x10 and the count of a hart that goes on
abbrev woken : Move → Option (ℕ × ℕ × ℕ)
woken (Goes h) = Some (h.pc, h.regs 10, h.retired)
woken Waits = None
woken Stopped = None
woken Fault = None

pub await_goes_on : woken (calls (caller 8 0 1)) ≡ Some (8, 0x8877665544332211, 8)
await_goes_on = refl

pub await_misaligned : calls (caller 9 0 1) ≡ Fault
await_misaligned = refl

pub await_past_the_words : calls (caller 24 0 1) ≡ Fault
await_past_the_words = refl

pub no_such_call : calls (caller 8 0 2) ≡ Fault
no_such_call = refl
