-- Rows of the instruction table: the fixed bits of an operation as a mask and its bits.
use Rattle.std.specs.Prelude.{ℕ, ◌+◌, ◌*◌, ◌^◌, List, Bool, ◌==◌, bit_and, slice_index}
use Rattle.rv_model.specs.declared.instr.Op.{Op}
use Rattle.rv_model.specs.Format.{Format, Register, Immediate, Shift, Store, Branch, Upper, Jump, Atomic, System}
use Rattle.rv_model.specs.Table.{format}
use Rattle.rv_table.specs.declared.rows.Row.{Row}

-- ones where a format fixes bits
abbrev pub mask_of : Format → ℕ
mask_of (Register o f g) = 0xFE00707F
mask_of (Immediate o f) = 0x707F
mask_of (Shift o f g) = 0xFC00707F
mask_of (Store o f) = 0x707F
mask_of (Branch o f) = 0x707F
mask_of (Upper o) = 0x7F
mask_of (Jump o) = 0x7F
mask_of (Atomic o f g) = 0xF800707F
mask_of (System o) = 0xFFFFFFFF

-- the fixed bits in their places
abbrev pub fixed_of : Format → ℕ
fixed_of (Register o f g) = o + 2 ^ 12 * f + 2 ^ 25 * g
fixed_of (Immediate o f) = o + 2 ^ 12 * f
fixed_of (Shift o f g) = o + 2 ^ 12 * f + 2 ^ 26 * g
fixed_of (Store o f) = o + 2 ^ 12 * f
fixed_of (Branch o f) = o + 2 ^ 12 * f
fixed_of (Upper o) = o
fixed_of (Jump o) = o
fixed_of (Atomic o f g) = o + 2 ^ 12 * f + 2 ^ 27 * g
fixed_of (System o) = o

-- the row of an operation
abbrev pub row_of : Op → Row
row_of op = record { mask = mask_of (format op); bits = fixed_of (format op); op = op }

-- the word has the row's bits under its mask
abbrev pub has_bits : ℕ → Row → Bool
has_bits word row = bit_and word row.mask == row.bits

-- the word of four bytes, least first
abbrev pub word_from : List ℕ → ℕ
word_from bytes = slice_index bytes 0 + 2 ^ 8 * slice_index bytes 1 + 2 ^ 16 * slice_index bytes 2 + 2 ^ 24 * slice_index bytes 3
