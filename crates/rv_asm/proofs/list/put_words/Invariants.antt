use Rattle.std.proofs.Common.{◌≡◌, ◌++◌, take}
use Rattle.rv_asm.specs.Listing.{word_lines}
use Rattle.rv_asm.proofs.list.put_words.Given as goal

-- the lines of the words so far
abbrev pub invariant-loop-word : goal.invariant-loop-word
invariant-loop-word l = l.text.items ≡ l.initial.text.items ++ word_lines (take l.word-index l.words)
