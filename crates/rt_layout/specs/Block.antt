-- Blocks: headers, and the words of integers.
use Rattle.std.specs.Prelude.{ℕ, ◌+◌, ◌*◌}
use Rattle.rv_model.specs.Word.{wrap}

-- the header of a block with so many words after it
abbrev pub header_of : ℕ → ℕ → ℕ
header_of words tag = words * 1024 + tag

-- the word of an integer
abbrev pub tagged_of : ℕ → ℕ
tagged_of n = wrap (n * 2 + 1)
