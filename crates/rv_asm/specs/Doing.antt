-- What a line does when its instructions are run.
use Rattle.std.specs.Prelude.{◌≡◌, ℕ, ◌+◌, ◌*◌, ◌<◌, ◌≤◌, ◌^◌, Bool, false, List, if◌then◌else◌, slice_get, Some}
use Rattle.rv_model.specs.declared.instr.Op.{Op}
use Rattle.rv_model.specs.declared.instr.Instr.{Instr}
use Rattle.rv_model.specs.declared.line.Line.{Line}
use Rattle.rv_model.specs.declared.line.Line.TheVariants.{Label, Plain, Branch, Jump, Const, CodeOf}
use Rattle.rv_model.specs.Table.{Effect, Branches, effect}
use Rattle.rv_model.specs.Machine.{Regs, get, put, Hart}
use Rattle.rv_model.specs.Run.{IsLed}
use Rattle.rv_asm.specs.Layout.{Layout, start_of, place_of, target_of}

-- the condition of a branch holds
abbrev pub is_taken : Effect → Bool
is_taken (Branches taken offset) = taken
is_taken _ = false

abbrev pub takes : Op → Regs → ℕ → ℕ → Bool
takes op r rs1 rs2 = is_taken (effect op (get r rs1) (get r rs2) 0 0)

-- a hart at an instruction
abbrev pub hart_at : ℕ → Regs → ℕ → Hart
hart_at k r c = record { pc = 4 * k; regs = r; retired = c }

-- from one instruction and these registers eight instructions at most lead to another, whatever the words are
abbrev pub Leads : List Instr → ℕ → Regs → ℕ → Regs → Type 0
Leads code from r to r' =
    (size budget c : ℕ) → c + 8 ≤ budget → (n : ℕ) × (n ≤ 8) × IsLed size code budget n (hart_at from r c) (hart_at to r' (c + n))

-- what a line does that begins at one instruction, where the next line begins at `next` and its label is at `to`; a plain line is its instruction
abbrev pub Does : List Instr → ℕ → ℕ → ℕ → Line → Type 0
Does code from next to (Label l) = next ≡ from
Does code from next to (Plain i) = (slice_get code from ≡ Some i) × (next ≡ from + 1)
Does code from next to (Branch op rs1 rs2 l) = (r : Regs) → Leads code from r (if takes op r rs1 rs2 then to else next) r
Does code from next to (Jump rd l) = (r : Regs) → Leads code from r to (put r rd (4 * next))
Does code from next to (Const rd v) = (r : Regs) → v < 2 ^ 64 → Leads code from r next (put r rd v)
Does code from next to (CodeOf rd l) = (r : Regs) → Leads code from r next (put r rd (4 * to))

-- the code does each line, where the line begins
abbrev pub DoesLines : List Line → List Instr → Layout → Type 0
DoesLines lines code long =
    (k : ℕ) (line : Line) → slice_get lines k ≡ Some line → Does code (start_of long lines k) (start_of long lines (k + 1)) (place_of long lines (target_of line)) line
