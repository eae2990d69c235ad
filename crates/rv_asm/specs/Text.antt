-- Instructions as text.
use Rattle.std.specs.Prelude.{ℕ, ◌+◌, ◌/◌, ◌%◌, List, [], ◌∷◌, ◌++◌, Bool, true, false, nat_lt, if◌then◌else◌, codes}
use Rattle.std.specs.Fmt.{decimal, signed_decimal}
use Rattle.std.specs.Int.{w32, w64, to_be_bytes}
use Rattle.rv_model.specs.declared.instr.Op.{Op}
use Rattle.rv_model.specs.declared.instr.Op.TheVariants.{Add, Sub, Sll, Slt, Sltu, Xor, Srl, Sra, Or, And, Mul, Mulh, Mulhsu, Mulhu, Div, Divu, Rem, Remu, Addw, Subw, Addi, Slti, Sltiu, Xori, Ori, Andi, Slli, Srli, Srai, Addiw, Ld, Lbu, Jalr, Sd, Beq, Bne, Blt, Bge, Bltu, Bgeu, Lui, Auipc, Jal, AmoaddD, AmoswapD, AmoandD, AmocasD, Ecall}
use Rattle.rv_model.specs.declared.instr.Instr.{Instr}

-- a hexadecimal digit, in lower case
abbrev pub hex_digit : ℕ → ℕ
hex_digit d = if nat_lt d 10 then 48 + d else 87 + d

-- two digits a byte
unfoldable pub hex_bytes : List ℕ → List ℕ
hex_bytes [] = []
hex_bytes (b ∷ bs) = hex_digit (b / 16) ∷ hex_digit (b % 16) ∷ hex_bytes bs

-- eight digits of a number of 32 bits, and sixteen of one of 64
abbrev pub hex_8 : ℕ → List ℕ
hex_8 n = hex_bytes (to_be_bytes w32 n)

abbrev pub hex_16 : ℕ → List ℕ
hex_16 n = hex_bytes (to_be_bytes w64 n)

-- what stands after the name of an atomic operation
abbrev pub order : Bool → Bool → List ℕ
order true true = codes ".aqrl"
order true false = codes ".aq"
order false true = codes ".rl"
order false false = []

-- the texts of the formats
abbrev pub registers : List ℕ → Instr → List ℕ
registers name i = name ++ ((codes " x" ++ decimal i.rd) ++ ((codes ", x" ++ decimal i.rs1) ++ (codes ", x" ++ decimal i.rs2)))

abbrev pub immediate : List ℕ → Instr → List ℕ
immediate name i = name ++ ((codes " x" ++ decimal i.rd) ++ ((codes ", x" ++ decimal i.rs1) ++ (codes ", " ++ signed_decimal i.imm)))

abbrev pub address : List ℕ → Instr → List ℕ
address name i = name ++ ((codes " x" ++ decimal i.rd) ++ ((codes ", " ++ signed_decimal i.imm) ++ ((codes "(x" ++ decimal i.rs1) ++ codes ")")))

abbrev pub store : List ℕ → Instr → List ℕ
store name i = name ++ ((codes " x" ++ decimal i.rs2) ++ ((codes ", " ++ signed_decimal i.imm) ++ ((codes "(x" ++ decimal i.rs1) ++ codes ")")))

abbrev pub branch : List ℕ → Instr → List ℕ
branch name i = name ++ ((codes " x" ++ decimal i.rs1) ++ ((codes ", x" ++ decimal i.rs2) ++ (codes ", " ++ signed_decimal i.imm)))

abbrev pub upper : List ℕ → Instr → List ℕ
upper name i = name ++ ((codes " x" ++ decimal i.rd) ++ (codes ", " ++ signed_decimal i.imm))

abbrev pub atomic : List ℕ → Instr → List ℕ
atomic name i = name ++ (order i.aq i.rl ++ ((codes " x" ++ decimal i.rd) ++ ((codes ", x" ++ decimal i.rs2) ++ ((codes ", (x" ++ decimal i.rs1) ++ codes ")"))))

abbrev pub bare : List ℕ → Instr → List ℕ
bare name i = name

-- the text of an instruction with this operation
abbrev pub text_by : Op → Instr → List ℕ
text_by Add i = registers (codes "add") i
text_by Sub i = registers (codes "sub") i
text_by Sll i = registers (codes "sll") i
text_by Slt i = registers (codes "slt") i
text_by Sltu i = registers (codes "sltu") i
text_by Xor i = registers (codes "xor") i
text_by Srl i = registers (codes "srl") i
text_by Sra i = registers (codes "sra") i
text_by Or i = registers (codes "or") i
text_by And i = registers (codes "and") i
text_by Mul i = registers (codes "mul") i
text_by Mulh i = registers (codes "mulh") i
text_by Mulhsu i = registers (codes "mulhsu") i
text_by Mulhu i = registers (codes "mulhu") i
text_by Div i = registers (codes "div") i
text_by Divu i = registers (codes "divu") i
text_by Rem i = registers (codes "rem") i
text_by Remu i = registers (codes "remu") i
text_by Addw i = registers (codes "addw") i
text_by Subw i = registers (codes "subw") i
text_by Addi i = immediate (codes "addi") i
text_by Slti i = immediate (codes "slti") i
text_by Sltiu i = immediate (codes "sltiu") i
text_by Xori i = immediate (codes "xori") i
text_by Ori i = immediate (codes "ori") i
text_by Andi i = immediate (codes "andi") i
text_by Slli i = immediate (codes "slli") i
text_by Srli i = immediate (codes "srli") i
text_by Srai i = immediate (codes "srai") i
text_by Addiw i = immediate (codes "addiw") i
text_by Ld i = address (codes "ld") i
text_by Lbu i = address (codes "lbu") i
text_by Jalr i = address (codes "jalr") i
text_by Sd i = store (codes "sd") i
text_by Beq i = branch (codes "beq") i
text_by Bne i = branch (codes "bne") i
text_by Blt i = branch (codes "blt") i
text_by Bge i = branch (codes "bge") i
text_by Bltu i = branch (codes "bltu") i
text_by Bgeu i = branch (codes "bgeu") i
text_by Lui i = upper (codes "lui") i
text_by Auipc i = upper (codes "auipc") i
text_by Jal i = upper (codes "jal") i
text_by AmoaddD i = atomic (codes "amoadd.d") i
text_by AmoswapD i = atomic (codes "amoswap.d") i
text_by AmoandD i = atomic (codes "amoand.d") i
text_by AmocasD i = atomic (codes "amocas.d") i
text_by Ecall i = bare (codes "ecall") i

-- the text of an instruction
abbrev pub text_of : Instr → List ℕ
text_of i = text_by i.op i
