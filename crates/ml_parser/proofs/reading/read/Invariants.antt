use Rattle.std.proofs.Common.{◌≡◌, drop}
use Rattle.ml_parser.specs.Reading.{reads, reading}
use Rattle.ml_parser.proofs.reading.read.Given as goal

-- what the rest is read as, behind what is read, is what all is read as
abbrev pub invariant-loop-i : goal.invariant-loop-i
invariant-loop-i l =
    reads l.tokens l.i (drop l.i l.tokens.lexemes) l.awaits l.frames l.reductions ≡ reading l.tokens
