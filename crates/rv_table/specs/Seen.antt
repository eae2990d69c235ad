-- The code's parts of words as those of the definitions.
use Rattle.std.specs.Prelude.{◌<◌}
use Rattle.rv_model.specs.declared.instr.Op.{Op}
use Rattle.rv_model.specs.declared.instr.Instr.{Instr}
use Rattle.rv_model.specs.Format.{Parts, parts, fields}
use Rattle.rv_model.specs.Table.{format}
use Rattle.rv_table.specs.declared.parts.Parts.{Parts as PartsOf}

abbrev pub seen_parts : PartsOf → Parts
seen_parts p = record { opcode = p.opcode; rd = p.rd; funct3 = p.funct3; rs1 = p.rs1; rs2 = p.rs2; funct7 = p.funct7 }

-- the registers are below 32
abbrev pub HasRegisters : Instr → Type 0
HasRegisters i = (i.rd < 32) × (i.rs1 < 32) × (i.rs2 < 32)

-- the parts of an instruction's word
abbrev pub instr_parts : Instr → Parts
instr_parts i = parts (format i.op) i

-- the instruction that an operation reads in the parts of a word
abbrev pub instr_fields : Op → Parts → Instr
instr_fields op p = fields op (format op) p
