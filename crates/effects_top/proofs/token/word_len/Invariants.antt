use Rattle.std.proofs.Common.{◌≡◌, ◌+◌, drop}
use Rattle.effects_top.specs.Pieces.{word_length}
use Rattle.effects_top.proofs.token.word_len.Given as goal

-- what is passed so far, and what is of a word in the rest
abbrev pub invariant-loop-i : goal.invariant-loop-i
invariant-loop-i l = word_length l.text ≡ l.i + word_length (drop l.i l.text)
