use Rattle.image_build.proofs.Rising.{FirstStand}
use Rattle.image_build.proofs.checked.are_start_words.Given as goal

-- the words so far
abbrev pub invariant-loop-word : goal.invariant-loop-word
invariant-loop-word l = FirstStand l.start l.size l.least l.word-index
