-- The part of the image that belongs to a domain's slot.
use Rattle.std.specs.Prelude.{ℕ, ◌+◌}
use Rattle.rt_layout.specs.declared.parts.TheConstants.{QUEUE_WORDS, SYSTEM_WORDS, FIELD_WORDS}

-- the words of a part whose test area has so many
abbrev pub part_words_of : ℕ → ℕ
part_words_of scratch = QUEUE_WORDS + SYSTEM_WORDS + FIELD_WORDS + scratch
