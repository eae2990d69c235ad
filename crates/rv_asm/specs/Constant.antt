-- Instructions that put a number into a register.
use Rattle.std.specs.Prelude.{ℕ, ◌+◌, ◌/◌, ◌%◌, ◌^◌, pos, List, [], ◌∷◌, ◌++◌, Bool, nat_lt, if◌then◌else◌}
use Rattle.rv_model.specs.declared.instr.Op.TheVariants.{Addi, Addiw, Slli, Lui}
use Rattle.rv_model.specs.declared.instr.Instr.{Instr}
use Rattle.rv_model.specs.Word.{wrap}
use Rattle.rv_model.specs.Format.{plain, signed}

-- the number is its low 12 bits, their sign extended
abbrev pub is_small : ℕ → Bool
is_small v = nat_lt (wrap (v + 2 ^ 11)) (2 ^ 12)

-- the number is its low 32 bits, their sign extended
abbrev pub is_middle : ℕ → Bool
is_middle v = nat_lt (wrap (v + 2 ^ 31)) (2 ^ 32)

-- the low 32 bits of a number, their sign extended: LUI sets the upper 20 of them, rounded, and ADDIW adds the rest
abbrev pub pair : ℕ → ℕ → List Instr
pair rd v = plain Lui rd 0 0 (pos ((v + 2 ^ 11) / 2 ^ 12 % 2 ^ 20)) ∷ plain Addiw rd rd 0 (signed 12 (v % 2 ^ 12)) ∷ []

-- so many further bits below
abbrev pub more_bits : ℕ → ℕ → ℕ → List Instr
more_bits rd bits part = plain Slli rd rd 0 (pos bits) ∷ plain Addi rd rd 0 (pos part) ∷ []

-- the 32 upper bits, then 11, 11 and 10 further ones
abbrev pub large_constant : ℕ → ℕ → List Instr
large_constant rd v =
    pair rd (v / 2 ^ 32) ++ (more_bits rd 11 (v / 2 ^ 21 % 2 ^ 11) ++ (more_bits rd 11 (v / 2 ^ 10 % 2 ^ 11) ++ more_bits rd 10 (v % 2 ^ 10)))

-- one, two or eight instructions that put a number into a register
abbrev pub constant : ℕ → ℕ → List Instr
constant rd v =
    if is_small v then plain Addi rd 0 0 (signed 12 (v % 2 ^ 12)) ∷ []
    else if is_middle v then pair rd v
    else large_constant rd v
