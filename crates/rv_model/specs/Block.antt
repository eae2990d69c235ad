-- Instructions that only set registers, one after another.
use Rattle.std.specs.Prelude.{ℕ, List, [], ◌∷◌, Option, Some, None}
use Rattle.rv_model.specs.declared.instr.Instr.{Instr}
use Rattle.rv_model.specs.Table.{Effect, Sets}
use Rattle.rv_model.specs.Machine.{Regs, put, effect_of}

-- what follows an instruction that sets a register
abbrev pub with_sets : Effect → (ℕ → Option Regs) → Option Regs
with_sets (Sets v) go = go v
with_sets _ go = None

-- the registers after these instructions, where all of them only set registers
abbrev pub block : List Instr → Regs → Option Regs
block [] r = Some r
block (i ∷ is) r = with_sets (effect_of i r) (λ v. block is (put r i.rd v))
