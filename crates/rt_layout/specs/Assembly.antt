-- Lines as they are written in assembly: an offset stands in front of its base, and what is stored first.
use Rattle.std.specs.Prelude.{ℕ, ℤ, pos}
use Rattle.rv_model.specs.declared.instr.Op.TheVariants.{Add, Sub, Sll, Slt, Srl, Or, And, Mul, Divu, Remu, Subw, Addi, Slli, Srli, Srai, Andi, Xori, Beq, Bne, Blt, Bge, Bltu, Bgeu, Ld, Lbu, Sd, Jalr, Ecall, AmoaddD, AmoswapD, AmoandD, AmocasD}
use Rattle.rv_model.specs.declared.line.Line.{Line}
use Rattle.rv_model.specs.declared.line.Line.TheVariants.{Label, Plain, Branch, Jump, Const, CodeOf}
use Rattle.rv_model.specs.Format.{plain}

abbrev pub label : ℕ → Line
label l = Label l

-- a constant
abbrev pub li : ℕ → ℕ → Line
li rd value = Const rd value

-- a label's address
abbrev pub code : ℕ → ℕ → Line
code rd l = CodeOf rd l

abbrev pub jump : ℕ → Line
jump l = Jump 0 l

-- a jump with a link
abbrev pub call : ℕ → ℕ → Line
call link l = Jump link l

-- to the address in a register, plus an offset
abbrev pub jr : ℕ → ℤ → Line
jr base at = Plain (plain Jalr 0 base 0 at)

abbrev pub mv : ℕ → ℕ → Line
mv rd rs = Plain (plain Addi rd rs 0 (pos 0))

abbrev pub ld : ℕ → ℤ → ℕ → Line
ld rd at base = Plain (plain Ld rd base 0 at)

abbrev pub lbu : ℕ → ℤ → ℕ → Line
lbu rd at base = Plain (plain Lbu rd base 0 at)

abbrev pub sd : ℕ → ℤ → ℕ → Line
sd value at base = Plain (plain Sd 0 base value at)

abbrev pub ecall : Line
ecall = Plain (plain Ecall 0 0 0 (pos 0))

abbrev pub add : ℕ → ℕ → ℕ → Line
add rd rs1 rs2 = Plain (plain Add rd rs1 rs2 (pos 0))

abbrev pub sub : ℕ → ℕ → ℕ → Line
sub rd rs1 rs2 = Plain (plain Sub rd rs1 rs2 (pos 0))

abbrev pub sll : ℕ → ℕ → ℕ → Line
sll rd rs1 rs2 = Plain (plain Sll rd rs1 rs2 (pos 0))

abbrev pub slt : ℕ → ℕ → ℕ → Line
slt rd rs1 rs2 = Plain (plain Slt rd rs1 rs2 (pos 0))

abbrev pub srl : ℕ → ℕ → ℕ → Line
srl rd rs1 rs2 = Plain (plain Srl rd rs1 rs2 (pos 0))

abbrev pub or : ℕ → ℕ → ℕ → Line
or rd rs1 rs2 = Plain (plain Or rd rs1 rs2 (pos 0))

abbrev pub and : ℕ → ℕ → ℕ → Line
and rd rs1 rs2 = Plain (plain And rd rs1 rs2 (pos 0))

abbrev pub mul : ℕ → ℕ → ℕ → Line
mul rd rs1 rs2 = Plain (plain Mul rd rs1 rs2 (pos 0))

abbrev pub divu : ℕ → ℕ → ℕ → Line
divu rd rs1 rs2 = Plain (plain Divu rd rs1 rs2 (pos 0))

abbrev pub remu : ℕ → ℕ → ℕ → Line
remu rd rs1 rs2 = Plain (plain Remu rd rs1 rs2 (pos 0))

abbrev pub subw : ℕ → ℕ → ℕ → Line
subw rd rs1 rs2 = Plain (plain Subw rd rs1 rs2 (pos 0))

abbrev pub addi : ℕ → ℕ → ℤ → Line
addi rd rs imm = Plain (plain Addi rd rs 0 imm)

abbrev pub slli : ℕ → ℕ → ℤ → Line
slli rd rs imm = Plain (plain Slli rd rs 0 imm)

abbrev pub srli : ℕ → ℕ → ℤ → Line
srli rd rs imm = Plain (plain Srli rd rs 0 imm)

abbrev pub srai : ℕ → ℕ → ℤ → Line
srai rd rs imm = Plain (plain Srai rd rs 0 imm)

abbrev pub andi : ℕ → ℕ → ℤ → Line
andi rd rs imm = Plain (plain Andi rd rs 0 imm)

abbrev pub xori : ℕ → ℕ → ℤ → Line
xori rd rs imm = Plain (plain Xori rd rs 0 imm)

abbrev pub amoadd : ℕ → ℕ → ℕ → Line
amoadd rd value base = Plain (plain AmoaddD rd base value (pos 0))

abbrev pub amoswap : ℕ → ℕ → ℕ → Line
amoswap rd value base = Plain (plain AmoswapD rd base value (pos 0))

abbrev pub amoand : ℕ → ℕ → ℕ → Line
amoand rd value base = Plain (plain AmoandD rd base value (pos 0))

abbrev pub amocas : ℕ → ℕ → ℕ → Line
amocas rd value base = Plain (plain AmocasD rd base value (pos 0))

abbrev pub beq : ℕ → ℕ → ℕ → Line
beq rs1 rs2 l = Branch Beq rs1 rs2 l

abbrev pub bne : ℕ → ℕ → ℕ → Line
bne rs1 rs2 l = Branch Bne rs1 rs2 l

abbrev pub blt : ℕ → ℕ → ℕ → Line
blt rs1 rs2 l = Branch Blt rs1 rs2 l

abbrev pub bge : ℕ → ℕ → ℕ → Line
bge rs1 rs2 l = Branch Bge rs1 rs2 l

abbrev pub bltu : ℕ → ℕ → ℕ → Line
bltu rs1 rs2 l = Branch Bltu rs1 rs2 l

abbrev pub bgeu : ℕ → ℕ → ℕ → Line
bgeu rs1 rs2 l = Branch Bgeu rs1 rs2 l
