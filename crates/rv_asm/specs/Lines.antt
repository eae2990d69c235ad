-- Lines of assembly: when they are well-formed, and the instructions that each stands for.
use Rattle.std.specs.Prelude.{◌≡◌, ℕ, ◌+◌, ◌-◌, ◌*◌, ◌<◌, ℤ, pos, negsuc, List, [], ◌∷◌, Some, Bool, nat_le, if◌then◌else◌, length, slice_get}
use Rattle.rv_model.specs.declared.instr.Op.{Op}
use Rattle.rv_model.specs.declared.instr.Op.TheVariants.{Beq, Bne, Blt, Bge, Bltu, Bgeu, Jal}
use Rattle.rv_model.specs.declared.instr.Instr.{Instr}
use Rattle.rv_model.specs.declared.line.Line.{Line}
use Rattle.rv_model.specs.declared.line.Line.TheVariants.{Label, Plain, Branch, Jump, Const, CodeOf}
use Rattle.rv_model.specs.Format.{plain}
use Rattle.rv_model.specs.Format.{Branch as BranchFormat}
use Rattle.rv_model.specs.Table.{format, IsWellFormed}
use Rattle.rv_asm.specs.Constant.{pair, constant}

-- the operation is one of the six branches
abbrev pub IsBranch : Op → Type 0
IsBranch op = (opcode funct3 : ℕ) × (format op ≡ BranchFormat opcode funct3)

-- some line defines the label
abbrev pub IsDefined : List Line → ℕ → Type 0
IsDefined lines l = (k : ℕ) × (slice_get lines k ≡ Some (Label l))

-- a line among others: its registers are below 32, its instruction is well-formed, and its label is defined
abbrev pub IsLine : List Line → Line → Type 0
IsLine lines (Label l) = Unit {0}
IsLine lines (Plain i) = IsWellFormed i
IsLine lines (Branch op rs1 rs2 to) = IsBranch op × (rs1 < 32) × (rs2 < 32) × IsDefined lines to
IsLine lines (Jump rd to) = (rd < 32) × IsDefined lines to
IsLine lines (Const rd value) = rd < 32
IsLine lines (CodeOf rd label) = (rd < 32) × IsDefined lines label

-- lines that can be assembled
pub record AreLines (lines : List Line) : Type 0 where
  pub each : (k : ℕ) (line : Line) → slice_get lines k ≡ Some line → IsLine lines line
  pub once : (j k l : ℕ) → slice_get lines j ≡ Some (Label l) → slice_get lines k ≡ Some (Label l) → j ≡ k
  pub ends : (k l : ℕ) → slice_get lines k ≡ Some (Label l) → k + 1 < length lines

-- how far it is from an instruction to another, in bytes
abbrev pub offset : ℕ → ℕ → ℤ
offset from to = if nat_le from to then pos (4 * (to - from)) else negsuc (4 * (from - to) - 1)

-- the branch that is taken where this one isn't
abbrev pub opposite : Op → Op
opposite Beq = Bne
opposite Bne = Beq
opposite Blt = Bge
opposite Bge = Blt
opposite Bltu = Bgeu
opposite Bgeu = Bltu
opposite op = op

-- how many instructions a line stands for, where a branch is long or not
abbrev pub size_of : Bool → Line → ℕ
size_of long (Label l) = 0
size_of long (Plain i) = 1
size_of long (Branch op rs1 rs2 to) = if long then 2 else 1
size_of long (Jump rd to) = 1
size_of long (Const rd value) = length (constant rd value)
size_of long (CodeOf rd label) = 2

-- the instructions that a line stands for, where it begins at instruction number `at` and `to` is the number of the instruction at the line's label
abbrev pub line_code : ℕ → ℕ → Bool → Line → List Instr
line_code at to long (Label l) = []
line_code at to long (Plain i) = i ∷ []
line_code at to long (Branch op rs1 rs2 l) =
    if long then plain (opposite op) 0 rs1 rs2 (pos 8) ∷ plain Jal 0 0 0 (offset (at + 1) to) ∷ []
    else plain op 0 rs1 rs2 (offset at to) ∷ []
line_code at to long (Jump rd l) = plain Jal rd 0 0 (offset at to) ∷ []
line_code at to long (Const rd value) = constant rd value
line_code at to long (CodeOf rd l) = pair rd (4 * to)
