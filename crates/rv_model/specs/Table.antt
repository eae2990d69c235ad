-- The instruction table: the format and what each operation does, one line each; words of instructions.
use Rattle.std.specs.Prelude.{◌≡◌, ℕ, ◌+◌, ◌-◌, ◌*◌, ◌/◌, ◌%◌, ◌^◌, ◌<◌, Bool, nat_lt, not, ◌==◌, if◌then◌else◌, bit_and, bit_or, bit_xor, List, [], ◌∷◌, Option, Some, None, IsTrue, slice_get}
use Rattle.rv_model.specs.declared.instr.Op.{Op}
use Rattle.rv_model.specs.declared.instr.Op.TheVariants.{Add, Sub, Sll, Slt, Sltu, Xor, Srl, Sra, Or, And, Mul, Mulh, Mulhsu, Mulhu, Div, Divu, Rem, Remu, Addw, Subw, Addi, Slti, Sltiu, Xori, Ori, Andi, Slli, Srli, Srai, Addiw, Ld, Lbu, Jalr, Sd, Beq, Bne, Blt, Bge, Bltu, Bgeu, Lui, Auipc, Jal, AmoaddD, AmoswapD, AmoandD, AmocasD, Ecall}
use Rattle.rv_model.specs.declared.instr.Instr.{Instr}
use Rattle.rv_model.specs.Word.{wrap, bit, less, word_32, widened, high, quotient, remainder, shifted_signed}
use Rattle.rv_model.specs.Format.{Format, Register, Immediate, Shift, Store, Branch, Upper, Jump, Atomic, System, packed, parts_of, parts, fields, fits}

-- the format and the fixed bits of each operation
abbrev pub format : Op → Format
format Add = Register 0b0110011 0b000 0b0000000
format Sub = Register 0b0110011 0b000 0b0100000
format Sll = Register 0b0110011 0b001 0b0000000
format Slt = Register 0b0110011 0b010 0b0000000
format Sltu = Register 0b0110011 0b011 0b0000000
format Xor = Register 0b0110011 0b100 0b0000000
format Srl = Register 0b0110011 0b101 0b0000000
format Sra = Register 0b0110011 0b101 0b0100000
format Or = Register 0b0110011 0b110 0b0000000
format And = Register 0b0110011 0b111 0b0000000
format Mul = Register 0b0110011 0b000 0b0000001
format Mulh = Register 0b0110011 0b001 0b0000001
format Mulhsu = Register 0b0110011 0b010 0b0000001
format Mulhu = Register 0b0110011 0b011 0b0000001
format Div = Register 0b0110011 0b100 0b0000001
format Divu = Register 0b0110011 0b101 0b0000001
format Rem = Register 0b0110011 0b110 0b0000001
format Remu = Register 0b0110011 0b111 0b0000001
format Addw = Register 0b0111011 0b000 0b0000000
format Subw = Register 0b0111011 0b000 0b0100000
format Addi = Immediate 0b0010011 0b000
format Slti = Immediate 0b0010011 0b010
format Sltiu = Immediate 0b0010011 0b011
format Xori = Immediate 0b0010011 0b100
format Ori = Immediate 0b0010011 0b110
format Andi = Immediate 0b0010011 0b111
format Slli = Shift 0b0010011 0b001 0b000000
format Srli = Shift 0b0010011 0b101 0b000000
format Srai = Shift 0b0010011 0b101 0b010000
format Addiw = Immediate 0b0011011 0b000
format Ld = Immediate 0b0000011 0b011
format Lbu = Immediate 0b0000011 0b100
format Jalr = Immediate 0b1100111 0b000
format Sd = Store 0b0100011 0b011
format Beq = Branch 0b1100011 0b000
format Bne = Branch 0b1100011 0b001
format Blt = Branch 0b1100011 0b100
format Bge = Branch 0b1100011 0b101
format Bltu = Branch 0b1100011 0b110
format Bgeu = Branch 0b1100011 0b111
format Lui = Upper 0b0110111
format Auipc = Upper 0b0010111
format Jal = Jump 0b1101111
format AmoaddD = Atomic 0b0101111 0b011 0b00000
format AmoswapD = Atomic 0b0101111 0b011 0b00001
format AmoandD = Atomic 0b0101111 0b011 0b01100
format AmocasD = Atomic 0b0101111 0b011 0b00101
format Ecall = System 0b1110011

-- what an instruction does; the places of accesses are byte addresses
pub data Effect : Type 0 where
  Sets : (value : ℕ) → Effect
  AddsPc : (value : ℕ) → Effect
  Branches : (taken : Bool) (offset : ℕ) → Effect
  Links : (offset : ℕ) → Effect
  LinksTo : (place : ℕ) → Effect
  Loads : (at : ℕ) → Effect
  LoadsByte : (at : ℕ) → Effect
  Stores : (at value : ℕ) → Effect
  Swaps : (at value : ℕ) → Effect
  Adds : (at value : ℕ) → Effect
  Masks : (at value : ℕ) → Effect
  Exchanges : (at expected value : ℕ) → Effect
  Calls : Effect

-- the effect of each operation, by the values a of rs1, b of rs2, d of rd, and the immediate i
abbrev pub effect : Op → ℕ → ℕ → ℕ → ℕ → Effect
effect Add a b d i = Sets (wrap (a + b))
effect Sub a b d i = Sets (wrap (a + (2 ^ 64 - b)))
effect Sll a b d i = Sets (wrap (a * 2 ^ (b % 64)))
effect Slt a b d i = Sets (bit (less a b))
effect Sltu a b d i = Sets (bit (nat_lt a b))
effect Xor a b d i = Sets (bit_xor a b)
effect Srl a b d i = Sets (a / 2 ^ (b % 64))
effect Sra a b d i = Sets (shifted_signed a (b % 64))
effect Or a b d i = Sets (bit_or a b)
effect And a b d i = Sets (bit_and a b)
effect Mul a b d i = Sets (wrap (a * b))
effect Mulh a b d i = Sets (high (widened a) (widened b))
effect Mulhsu a b d i = Sets (high (widened a) b)
effect Mulhu a b d i = Sets (high a b)
effect Div a b d i = Sets (quotient a b)
effect Divu a b d i = Sets (if b == 0 then 2 ^ 64 - 1 else a / b)
effect Rem a b d i = Sets (remainder a b)
effect Remu a b d i = Sets (if b == 0 then a else a % b)
effect Addw a b d i = Sets (word_32 (a + b))
effect Subw a b d i = Sets (word_32 (a + (2 ^ 64 - b)))
effect Addi a b d i = Sets (wrap (a + i))
effect Slti a b d i = Sets (bit (less a i))
effect Sltiu a b d i = Sets (bit (nat_lt a i))
effect Xori a b d i = Sets (bit_xor a i)
effect Ori a b d i = Sets (bit_or a i)
effect Andi a b d i = Sets (bit_and a i)
effect Slli a b d i = Sets (wrap (a * 2 ^ (i % 64)))
effect Srli a b d i = Sets (a / 2 ^ (i % 64))
effect Srai a b d i = Sets (shifted_signed a (i % 64))
effect Addiw a b d i = Sets (word_32 (a + i))
effect Ld a b d i = Loads (wrap (a + i))
effect Lbu a b d i = LoadsByte (wrap (a + i))
effect Jalr a b d i = LinksTo (wrap (a + i) / 2 * 2)
effect Sd a b d i = Stores (wrap (a + i)) b
effect Beq a b d i = Branches (a == b) i
effect Bne a b d i = Branches (not (a == b)) i
effect Blt a b d i = Branches (less a b) i
effect Bge a b d i = Branches (not (less a b)) i
effect Bltu a b d i = Branches (nat_lt a b) i
effect Bgeu a b d i = Branches (not (nat_lt a b)) i
effect Lui a b d i = Sets (word_32 (i * 2 ^ 12))
effect Auipc a b d i = AddsPc (word_32 (i * 2 ^ 12))
effect Jal a b d i = Links i
effect AmoaddD a b d i = Adds a b
effect AmoswapD a b d i = Swaps a b
effect AmoandD a b d i = Masks a b
effect AmocasD a b d i = Exchanges a d b
effect Ecall a b d i = Calls

-- registers are below 32, and the rest fits the format
abbrev pub IsWellFormed : Instr → Type 0
IsWellFormed i = (i.rd < 32) × (i.rs1 < 32) × (i.rs2 < 32) × IsTrue (fits (format i.op) i)

-- each instruction of the code is well-formed
unfoldable pub AreWellFormed : List Instr → Type 0
AreWellFormed code = (k : ℕ) (i : Instr) → slice_get code k ≡ Some i → IsWellFormed i

-- the word of an instruction, of 32 bits
abbrev pub bits_of : Instr → ℕ
bits_of i = packed (parts (format i.op) i)

-- the instruction that an operation makes of the fields of a word
abbrev pub read_as : Op → ℕ → Instr
read_as op w = fields op (format op) (parts_of w)

-- the first of these operations whose instruction has this word
unfoldable pub decoded_among : List Op → ℕ → Option Instr
decoded_among [] w = None
decoded_among (op ∷ rest) w = if bits_of (read_as op w) == w then Some (read_as op w) else decoded_among rest w

-- all operations
abbrev pub ops : List Op
ops = Add ∷ Sub ∷ Sll ∷ Slt ∷ Sltu ∷ Xor ∷ Srl ∷ Sra ∷ Or ∷ And ∷ Mul ∷ Mulh ∷ Mulhsu ∷ Mulhu ∷ Div ∷ Divu ∷ Rem ∷ Remu ∷ Addw ∷ Subw ∷ Addi ∷ Slti ∷ Sltiu ∷ Xori ∷ Ori ∷ Andi ∷ Slli ∷ Srli ∷ Srai ∷ Addiw ∷ Ld ∷ Lbu ∷ Jalr ∷ Sd ∷ Beq ∷ Bne ∷ Blt ∷ Bge ∷ Bltu ∷ Bgeu ∷ Lui ∷ Auipc ∷ Jal ∷ AmoaddD ∷ AmoswapD ∷ AmoandD ∷ AmocasD ∷ Ecall ∷ []

-- the instruction that has this word, where there is one
abbrev pub decoded : ℕ → Option Instr
decoded w = decoded_among ops w

-- the four bytes of a word, least first
abbrev pub bytes_of : ℕ → List ℕ
bytes_of w = (w % 256) ∷ (w / 2 ^ 8 % 256) ∷ (w / 2 ^ 16 % 256) ∷ (w / 2 ^ 24 % 256) ∷ []
