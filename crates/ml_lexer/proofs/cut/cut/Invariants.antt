use Rattle.std.proofs.Common.{◌≡◌, ◌+◌, ◌-◌, ◌≤◌, All, length, drop, map}
use Rattle.ml_lexer.specs.Lexeme.{lexeme_at, LiesIn}
use Rattle.ml_lexer.specs.Lexes.{first_place, place_after}
use Rattle.ml_lexer.specs.Pieces.{behind, read_from}
use Rattle.ml_lexer.proofs.cut.cut.Given as goal

-- the lexemes so far, and what is read of the rest; the place so far, moved over the rest, is that behind all
abbrev pub invariant-loop-at : goal.invariant-loop-at
invariant-loop-at l = record {
  rest : read_from first_place l.bytes ≡ behind (map (lexeme_at l.bytes) l.tokens.items) (read_from l.place (drop l.at l.bytes));
  moved : place_after first_place l.bytes ≡ place_after l.place (drop l.at l.bytes);
  lies : All (LiesIn l.bytes) l.tokens.items;
  within : l.at ≤ length l.bytes;
  line : l.place.line ≤ l.at + 1;
  column : l.place.column ≤ l.at + 1;
}

abbrev pub decreases-loop-at : goal.decreases-loop-at
decreases-loop-at l = length l.bytes - l.at
