use Rattle.std.proofs.Common.{◌≡◌, length, take}
use Rattle.rv_model.specs.Start.{start_words}
use Rattle.rv_model.specs.Machine.{words_of}
use Rattle.rv_model.proofs.image.Image.first_words.Given as goal

-- the words are those of the start words so far
abbrev pub invariant-loop-word : goal.invariant-loop-word
invariant-loop-word l = (length l.words.items ≡ l.self.size) × (words_of l.words.items ≡ start_words (take l.word-index l.word-items))
