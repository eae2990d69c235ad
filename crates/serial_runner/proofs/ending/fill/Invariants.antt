use Rattle.std.proofs.Common.{◌≡◌, length, take}
use Rattle.rv_model.specs.Machine.{words_of}
use Rattle.rv_model.specs.Layout as layout
use Rattle.serial_runner.proofs.ending.fill.Given as goal

-- the bytes so far
abbrev pub invariant-loop-number : goal.invariant-loop-number
invariant-loop-number l =
    (length l.bytes.items ≡ length l.initial.bytes.items)
    × (take l.number l.bytes.items ≡ layout.bytes_from (words_of l.words) l.at l.number)
