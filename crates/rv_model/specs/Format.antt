-- The formats of instruction words: where the fields of an instruction stand among the 32 bits.
use Rattle.std.specs.Prelude.{ℕ, ◌+◌, ◌-◌, ◌*◌, ◌/◌, ◌%◌, ◌^◌, ℤ, pos, negsuc, Bool, false, not, ◌&&◌, nat_lt, ◌==◌, if◌then◌else◌}
use Rattle.rv_model.specs.declared.instr.Op.{Op}
use Rattle.rv_model.specs.declared.instr.Instr.{Instr}
use Rattle.rv_model.specs.Word.{word_of, bit}

-- a format with its fixed bits: R, I, I with an amount, S, B, U, J, the atomic one of R, and a whole word
pub data Format : Type 0 where
  Register : (opcode funct3 funct7 : ℕ) → Format
  Immediate : (opcode funct3 : ℕ) → Format
  Shift : (opcode funct3 funct6 : ℕ) → Format
  Store : (opcode funct3 : ℕ) → Format
  Branch : (opcode funct3 : ℕ) → Format
  Upper : (opcode : ℕ) → Format
  Jump : (opcode : ℕ) → Format
  Atomic : (opcode funct3 funct5 : ℕ) → Format
  System : (opcode : ℕ) → Format

-- the six parts of an instruction word, from the lowest bits up
pub record Parts : Type 0 where
  pub opcode : ℕ
  pub rd : ℕ
  pub funct3 : ℕ
  pub rs1 : ℕ
  pub rs2 : ℕ
  pub funct7 : ℕ

-- the word of its parts
abbrev pub packed : Parts → ℕ
packed p = p.opcode + 2 ^ 7 * p.rd + 2 ^ 12 * p.funct3 + 2 ^ 15 * p.rs1 + 2 ^ 20 * p.rs2 + 2 ^ 25 * p.funct7

-- the parts of a word
abbrev pub parts_of : ℕ → Parts
parts_of w = record { opcode = w % 2 ^ 7; rd = w / 2 ^ 7 % 2 ^ 5; funct3 = w / 2 ^ 12 % 2 ^ 3; rs1 = w / 2 ^ 15 % 2 ^ 5; rs2 = w / 2 ^ 20 % 2 ^ 5; funct7 = w / 2 ^ 25 }

-- the low bits of an integer in two's complement
abbrev pub low : ℕ → ℤ → ℕ
low bits z = word_of z % 2 ^ bits

-- the integer that these bits are in two's complement
abbrev pub signed : ℕ → ℕ → ℤ
signed bits n = if nat_lt n (2 ^ (bits - 1)) then pos n else negsuc (2 ^ bits - 1 - n)

-- B: bits 12 and 10 to 5 of the offset stand above, bits 4 to 1 and 11 below
abbrev pub branch_above : ℕ → ℕ
branch_above n = n / 2 ^ 12 * 2 ^ 6 + n / 2 ^ 5 % 2 ^ 6

abbrev pub branch_below : ℕ → ℕ
branch_below n = n / 2 % 2 ^ 4 * 2 + n / 2 ^ 11 % 2

abbrev pub branch_offset : ℕ → ℕ → ℕ
branch_offset above below = above / 2 ^ 6 * 2 ^ 12 + below % 2 * 2 ^ 11 + above % 2 ^ 6 * 2 ^ 5 + below / 2 * 2

-- J: the upper 20 bits are the offset's bits 20, 10 to 1, 11, 19 to 12
abbrev pub jump_bits : ℕ → ℕ
jump_bits n = n / 2 ^ 20 * 2 ^ 19 + n / 2 % 2 ^ 10 * 2 ^ 9 + n / 2 ^ 11 % 2 * 2 ^ 8 + n / 2 ^ 12 % 2 ^ 8

abbrev pub jump_offset : ℕ → ℕ
jump_offset m = m / 2 ^ 19 * 2 ^ 20 + m % 2 ^ 8 * 2 ^ 12 + m / 2 ^ 8 % 2 * 2 ^ 11 + m / 2 ^ 9 % 2 ^ 10 * 2

-- the parts of a word whose upper 20 bits are a number
abbrev pub upper_parts : ℕ → ℕ → ℕ → Parts
upper_parts o rd m = record { opcode = o; rd = rd; funct3 = m % 2 ^ 3; rs1 = m / 2 ^ 3 % 2 ^ 5; rs2 = m / 2 ^ 8 % 2 ^ 5; funct7 = m / 2 ^ 13 }

abbrev pub upper_bits : Parts → ℕ
upper_bits p = p.funct3 + 2 ^ 3 * p.rs1 + 2 ^ 8 * p.rs2 + 2 ^ 13 * p.funct7

-- the parts of an instruction's word
abbrev pub parts : Format → Instr → Parts
parts (Register o f g) i = record { opcode = o; rd = i.rd; funct3 = f; rs1 = i.rs1; rs2 = i.rs2; funct7 = g }
parts (Immediate o f) i = record { opcode = o; rd = i.rd; funct3 = f; rs1 = i.rs1; rs2 = low 12 i.imm % 2 ^ 5; funct7 = low 12 i.imm / 2 ^ 5 }
parts (Shift o f g) i = record { opcode = o; rd = i.rd; funct3 = f; rs1 = i.rs1; rs2 = low 6 i.imm % 2 ^ 5; funct7 = g * 2 + low 6 i.imm / 2 ^ 5 }
parts (Store o f) i = record { opcode = o; rd = low 12 i.imm % 2 ^ 5; funct3 = f; rs1 = i.rs1; rs2 = i.rs2; funct7 = low 12 i.imm / 2 ^ 5 }
parts (Branch o f) i = record { opcode = o; rd = branch_below (low 13 i.imm); funct3 = f; rs1 = i.rs1; rs2 = i.rs2; funct7 = branch_above (low 13 i.imm) }
parts (Upper o) i = upper_parts o i.rd (low 20 i.imm)
parts (Jump o) i = upper_parts o i.rd (jump_bits (low 21 i.imm))
parts (Atomic o f g) i = record { opcode = o; rd = i.rd; funct3 = f; rs1 = i.rs1; rs2 = i.rs2; funct7 = g * 4 + bit i.aq * 2 + bit i.rl }
parts (System o) i = record { opcode = o; rd = 0; funct3 = 0; rs1 = 0; rs2 = 0; funct7 = 0 }

-- an instruction that is no atomic operation
abbrev pub plain : Op → ℕ → ℕ → ℕ → ℤ → Instr
plain op rd rs1 rs2 imm = record { op = op; rd = rd; rs1 = rs1; rs2 = rs2; imm = imm; aq = false; rl = false }

-- the instruction that this operation and these parts of a word make
abbrev pub fields : Op → Format → Parts → Instr
fields op (Register o f g) p = plain op p.rd p.rs1 p.rs2 (pos 0)
fields op (Immediate o f) p = plain op p.rd p.rs1 0 (signed 12 (p.rs2 + 2 ^ 5 * p.funct7))
fields op (Shift o f g) p = plain op p.rd p.rs1 0 (pos (p.rs2 + 2 ^ 5 * (p.funct7 % 2)))
fields op (Store o f) p = plain op 0 p.rs1 p.rs2 (signed 12 (p.rd + 2 ^ 5 * p.funct7))
fields op (Branch o f) p = plain op 0 p.rs1 p.rs2 (signed 13 (branch_offset p.funct7 p.rd))
fields op (Upper o) p = plain op p.rd 0 0 (pos (upper_bits p))
fields op (Jump o) p = plain op p.rd 0 0 (signed 21 (jump_offset (upper_bits p)))
fields op (Atomic o f g) p = record { op = op; rd = p.rd; rs1 = p.rs1; rs2 = p.rs2; imm = pos 0; aq = p.funct7 / 2 % 2 == 1; rl = p.funct7 % 2 == 1 }
fields op (System o) p = plain op 0 0 0 (pos 0)

-- the integer is in the range of so many bits in two's complement
abbrev pub is_signed : ℕ → ℤ → Bool
is_signed bits (pos n) = nat_lt n (2 ^ (bits - 1))
is_signed bits (negsuc n) = nat_lt n (2 ^ (bits - 1))

-- the integer is from 0 up and below the limit
abbrev pub is_below : ℕ → ℤ → Bool
is_below limit (pos n) = nat_lt n limit
is_below limit (negsuc n) = false

abbrev pub is_even : ℤ → Bool
is_even (pos n) = n % 2 == 0
is_even (negsuc n) = n % 2 == 1

-- the instruction isn't marked with an order
abbrev pub is_unordered : Instr → Bool
is_unordered i = not i.aq && not i.rl

-- the immediate fits the format, and the fields that the format lacks are 0 or false
abbrev pub fits : Format → Instr → Bool
fits (Register o f g) i = is_below 1 i.imm && is_unordered i
fits (Immediate o f) i = is_signed 12 i.imm && (i.rs2 == 0) && is_unordered i
fits (Shift o f g) i = is_below 64 i.imm && (i.rs2 == 0) && is_unordered i
fits (Store o f) i = is_signed 12 i.imm && (i.rd == 0) && is_unordered i
fits (Branch o f) i = is_signed 13 i.imm && is_even i.imm && (i.rd == 0) && is_unordered i
fits (Upper o) i = is_below (2 ^ 20) i.imm && (i.rs1 == 0) && (i.rs2 == 0) && is_unordered i
fits (Jump o) i = is_signed 21 i.imm && is_even i.imm && (i.rs1 == 0) && (i.rs2 == 0) && is_unordered i
fits (Atomic o f g) i = is_below 1 i.imm
fits (System o) i = is_below 1 i.imm && (i.rd == 0) && (i.rs1 == 0) && (i.rs2 == 0) && is_unordered i
