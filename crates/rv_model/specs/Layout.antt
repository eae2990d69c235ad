-- What the first words of an image mean: the end of the run, and the log with the printed bytes.
use Rattle.std.specs.Prelude.{◌≡◌, ℕ, zero, suc, ◌+◌, ◌*◌, ◌/◌, ◌%◌, ◌≤◌, List, [], ◌∷◌, ◌++◌, ◌==◌, if◌then◌else◌, Option, Some, None}
use Rattle.rv_model.specs.declared.layout.TheConstants.{END_WORD, DETAIL_WORD, CURSOR_WORD, TEXT_WORD, LOG_WORD}
use Rattle.rv_model.specs.declared.report.RunEnd.{RunEnd}
use Rattle.rv_model.specs.declared.report.RunEnd.TheVariants.{Exited, Uncaught, HeapFull, StackFull, CallsFull, OutputFull}
use Rattle.rv_model.specs.Machine.{Words, byte_of}

-- the byte at an address
abbrev pub byte_at : Words → ℕ → ℕ
byte_at w at = byte_of (w (at / 8)) (at % 8)

-- so many bytes from an address on
abbrev pub bytes_from : Words → ℕ → ℕ → List ℕ
bytes_from w at zero = []
bytes_from w at (suc n) = byte_at w at ∷ bytes_from w (at + 1) n

-- the bytes printed so far
abbrev pub log : Words → List ℕ
log w = bytes_from w (8 * LOG_WORD) (w CURSOR_WORD)

-- the words that a log of so many bytes takes
abbrev pub log_words : ℕ → ℕ
log_words out = (out + 7) / 8

-- the end that a number and the words tell; the numbers are those of the end word
abbrev pub end_of : ℕ → Words → Option RunEnd
end_of kind w =
    if kind == 1 then Some (Exited (w DETAIL_WORD))
    else if kind == 2 then Some (Uncaught (bytes_from w (8 * TEXT_WORD) (w DETAIL_WORD)))
    else if kind == 3 then Some (HeapFull (w DETAIL_WORD) (w (DETAIL_WORD + 1)) (w (DETAIL_WORD + 2)))
    else if kind == 4 then Some (StackFull (w DETAIL_WORD) (w (DETAIL_WORD + 1)))
    else if kind == 5 then Some (CallsFull (w DETAIL_WORD))
    else if kind == 6 then Some (OutputFull (w DETAIL_WORD) (w (DETAIL_WORD + 1)) (w (DETAIL_WORD + 2)))
    else None

-- the end of the run, where the words tell one
abbrev pub end : Words → Option RunEnd
end w = end_of (w END_WORD) w

abbrev pub IsPrefix : List ℕ → List ℕ → Type 0
IsPrefix xs ys = (rest : List ℕ) × (ys ≡ xs ++ rest)

-- the log grows at its end; after the end of the run neither changes
pub record Keeps (w w' : Words) : Type 0 where
  pub grows : IsPrefix (log w) (log w')
  pub ends : (e : RunEnd) → end w ≡ Some e → end w' ≡ Some e
  pub stays : (e : RunEnd) → end w ≡ Some e → log w' ≡ log w

-- the end word, its first detail and the log's cursor are in their ranges, for a log of so many bytes
pub record IsSound (out : ℕ) (w : Words) : Type 0 where
  pub kind : w END_WORD ≤ 6
  pub status : w END_WORD ≡ 1 → w DETAIL_WORD ≤ 255
  pub text : w END_WORD ≡ 2 → w DETAIL_WORD ≤ 1024
  pub active : w END_WORD ≡ 5 → w DETAIL_WORD ≤ 255
  pub cursor : w CURSOR_WORD ≤ out
