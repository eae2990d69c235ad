use Rattle.std.proofs.Common.{◌≡◌, ◌+◌, ◌-◌, ◌≤◌, length, drop}
use Rattle.std.specs.Prelude.{option_map}
use Rattle.ml_lexer.specs.Scan.{inside}
use Rattle.ml_lexer.proofs.comments.comment_len.Given as goal

-- what is passed so far, and the rest of the comment
abbrev pub invariant-loop-depth : goal.invariant-loop-depth
invariant-loop-depth l = record {
  rest : inside 1 0 l.bytes ≡ option_map (λ n. l.at + n) (inside l.depth 0 (drop l.at l.bytes));
  deep : l.depth ≤ l.at + 1;
  within : l.at ≤ length l.bytes;
}

abbrev pub decreases-loop-depth : goal.decreases-loop-depth
decreases-loop-depth l = length l.bytes - l.at
