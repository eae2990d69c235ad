-- Which lines may stand at which places.
use Rattle.std.specs.Prelude.{◌≡◌, ℕ, ◌+◌, ◌<◌, Bool, true, false, IsTrue}
use Rattle.rv_model.specs.declared.instr.Op.{Op}
use Rattle.rv_model.specs.declared.line.Line.{Line}
use Rattle.rv_model.specs.declared.line.Line.TheVariants.{Label, Plain, Branch, Jump, Const, CodeOf}
use Rattle.rv_model.specs.Format.{Format}
use Rattle.rv_model.specs.Format.{Branch as BranchFormat}
use Rattle.rv_model.specs.Table.{format, IsWellFormed}

-- the format is that of branches
abbrev pub is_of_branches : Format → Bool
is_of_branches (BranchFormat opcode funct3) = true
is_of_branches _ = false

-- the operation is one of the six branches
abbrev pub is_branch : Op → Bool
is_branch op = is_of_branches (format op)

-- the label that a line defines or names; 0 where there is none
abbrev pub label_of : Line → ℕ
label_of (Label l) = l
label_of (Plain i) = 0
label_of (Branch op rs1 rs2 to) = to
label_of (Jump rd to) = to
label_of (Const rd value) = 0
label_of (CodeOf rd label) = label

-- a line may stand at this place among so many lines, where the first one that defines its label has number `defined`
abbrev pub StandsAt : ℕ → ℕ → ℕ → Line → Type 0
StandsAt count place defined (Label l) = (defined ≡ place) × (place + 1 < count)
StandsAt count place defined (Plain i) = IsWellFormed i
StandsAt count place defined (Branch op rs1 rs2 to) = IsTrue (is_branch op) × (rs1 < 32) × (rs2 < 32) × (defined < count)
StandsAt count place defined (Jump rd to) = (rd < 32) × (defined < count)
StandsAt count place defined (Const rd value) = rd < 32
StandsAt count place defined (CodeOf rd label) = (rd < 32) × (defined < count)
