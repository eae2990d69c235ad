use Rattle.std.proofs.Common.{◌≡◌, ◌-◌, ◌≤◌, ◌++◌, length, drop}
use Rattle.ml_lexer.specs.Values as values
use Rattle.ml_lexer.proofs.values.parts_bytes.Given as goal

-- the bytes so far, and those of the rest
abbrev pub invariant-loop-at : goal.invariant-loop-at
invariant-loop-at l = record {
  rest : values.parts_bytes 0 l.parts ≡ l.bytes.items ++ values.parts_bytes 0 (drop l.at l.parts);
  within : l.at ≤ length l.parts;
}

abbrev pub decreases-loop-at : goal.decreases-loop-at
decreases-loop-at l = length l.parts - l.at
