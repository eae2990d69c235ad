-- The loop, as lines and as instructions, and the words at the start.
use Rattle.std.specs.Prelude.{ℕ, pos, negsuc, List, [], ◌∷◌}
use Rattle.rv_model.specs.declared.instr.Op.TheVariants.{Ld, Addi, Add, Xor, Sd, Srli, Mul, Bne, Ecall}
use Rattle.rv_model.specs.declared.instr.Instr.{Instr}
use Rattle.rv_model.specs.declared.line.Line.{Line}
use Rattle.rv_model.specs.declared.line.Line.TheVariants.{Label, Plain, Branch}
use Rattle.rv_model.specs.declared.image.StartWord.{StartWord}
use Rattle.rv_model.specs.Format.{plain}

-- the lines of the program
abbrev pub bench_lines : List Line
bench_lines =
    Plain (plain Ld 5 0 0 (pos 136))
    ∷ Label 0
    ∷ Plain (plain Addi 6 6 0 (pos 1))
    ∷ Plain (plain Add 7 7 6 (pos 0))
    ∷ Plain (plain Xor 9 9 7 (pos 0))
    ∷ Plain (plain Sd 0 0 9 (pos 128))
    ∷ Plain (plain Ld 11 0 0 (pos 128))
    ∷ Plain (plain Srli 12 11 0 (pos 3))
    ∷ Plain (plain Mul 13 12 6 (pos 0))
    ∷ Branch Bne 6 5 0
    ∷ Plain (plain Addi 10 0 0 (pos 144))
    ∷ Plain (plain Addi 11 0 0 (pos 1))
    ∷ Plain (plain Addi 17 0 0 (pos 1))
    ∷ Plain (plain Ecall 0 0 0 (pos 0))
    ∷ Plain (plain Addi 14 0 0 (pos 1))
    ∷ Plain (plain Sd 0 0 14 (pos 8))
    ∷ Plain (plain Addi 17 0 0 (pos 0))
    ∷ Plain (plain Ecall 0 0 0 (pos 0))
    ∷ []

-- the instructions that the lines stand for
abbrev pub bench_code : List Instr
bench_code =
    plain Ld 5 0 0 (pos 136)
    ∷ plain Addi 6 6 0 (pos 1)
    ∷ plain Add 7 7 6 (pos 0)
    ∷ plain Xor 9 9 7 (pos 0)
    ∷ plain Sd 0 0 9 (pos 128)
    ∷ plain Ld 11 0 0 (pos 128)
    ∷ plain Srli 12 11 0 (pos 3)
    ∷ plain Mul 13 12 6 (pos 0)
    ∷ plain Bne 0 6 5 (negsuc 27)
    ∷ plain Addi 10 0 0 (pos 144)
    ∷ plain Addi 11 0 0 (pos 1)
    ∷ plain Addi 17 0 0 (pos 1)
    ∷ plain Ecall 0 0 0 (pos 0)
    ∷ plain Addi 14 0 0 (pos 1)
    ∷ plain Sd 0 0 14 (pos 8)
    ∷ plain Addi 17 0 0 (pos 0)
    ∷ plain Ecall 0 0 0 (pos 0)
    ∷ []

-- the words that aren't 0 at the start: how often the loop goes round, and the word that is waited for
abbrev pub start_of : ℕ → ℕ → List StartWord
start_of count gate = record { at = 17; value = count } ∷ record { at = 18; value = gate } ∷ []
