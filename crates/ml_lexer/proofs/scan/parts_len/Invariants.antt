use Rattle.std.proofs.Common.{◌≡◌, ◌+◌, ◌-◌, ◌≤◌, length, drop}
use Rattle.std.specs.Prelude.{option_map}
use Rattle.ml_lexer.specs.Scan.{scan_parts}
use Rattle.ml_lexer.proofs.scan.parts_len.Given as goal

-- what is passed so far, and the parts in the rest
abbrev pub invariant-loop-at : goal.invariant-loop-at
invariant-loop-at l = record {
  parts : scan_parts l.bytes ≡ option_map (λ n. l.at + n) (scan_parts (drop l.at l.bytes));
  within : l.at ≤ length l.bytes;
}

abbrev pub decreases-loop-at : goal.decreases-loop-at
decreases-loop-at l = length l.bytes - l.at
