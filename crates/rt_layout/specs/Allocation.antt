-- The code that makes a block. Each definition stands in front of the lines that follow.
use Rattle.std.specs.Prelude.{ℕ, ℤ, pos, ◌-◌, List, ◌∷◌, nat_le, if◌then◌else◌}
use Rattle.rv_model.specs.declared.line.Line.{Line}
use Rattle.rt_layout.specs.declared.registers.TheConstants.{T0, T1, T3, A2, A3, CUR, AUX, NEW, LINK, HCUR, HSIZE, HEAP}
use Rattle.rt_layout.specs.declared.blocks.TheConstants.{HEADER}
use Rattle.rt_layout.specs.declared.fixed.TheConstants.{END_HEAP_FULL}
use Rattle.rt_layout.specs.declared.labels.TheConstants.{ALLOC_LARGE, TOO_LARGE, HEAP_FULL, STOP_RUN}
use Rattle.rt_layout.specs.Assembly.{label, li, jump, jr, mv, ld, sd, add, sub, addi, slli, amoadd, bltu}

-- a block of x7 words in `rd`: the cursor moves, and must stay within the heap
abbrev pub alloc_lines : ℕ → List Line → List Line
alloc_lines rd tail =
    amoadd rd T1 HCUR
    ∷ add T3 rd T1
    ∷ bltu HSIZE T3 HEAP_FULL
    ∷ slli rd rd (pos 3)
    ∷ add rd rd HEAP
    ∷ tail

-- the header of a block into its place, or that of a second block behind it; x7 is the number of words
abbrev pub header_line : ℕ → ℕ → Line
header_line words header = if nat_le (header - words) 2047 then addi T0 T1 (pos (header - words)) else li T0 header

abbrev pub header_lines : ℕ → ℤ → ℕ → ℕ → List Line → List Line
header_lines rd at words header tail = header_line words header ∷ sd T0 at rd ∷ tail

-- a block of so many words, with its header
abbrev pub new_block_lines : ℕ → ℕ → ℕ → List Line → List Line
new_block_lines rd words header tail = li T1 words ∷ alloc_lines rd (header_lines rd HEADER words header tail)

-- a block of any size: refused before the cursor moves where it is larger than the heap
abbrev pub alloc_large_lines : List Line → List Line
alloc_large_lines tail = label ALLOC_LARGE ∷ bltu HSIZE T1 TOO_LARGE ∷ alloc_lines NEW (jr LINK (pos 0) ∷ tail)

-- x28 becomes the words in use and asked for
abbrev pub too_large_lines : List Line → List Line
too_large_lines tail = label TOO_LARGE ∷ ld T3 (pos 0) HCUR ∷ add T3 T3 T1 ∷ tail

-- the run ends: x28 words in use and asked for, x7 asked for
abbrev pub heap_full_lines : List Line → List Line
heap_full_lines tail =
    label HEAP_FULL
    ∷ li A2 END_HEAP_FULL
    ∷ sub A3 T3 T1
    ∷ mv CUR T1
    ∷ mv AUX HSIZE
    ∷ jump STOP_RUN
    ∷ tail
