use Rattle.std.proofs.Common.{◌≡◌, ◌+◌, ◌≤◌, drop}
use Rattle.ml_lexer.specs.Lexes.{place_after}
use Rattle.ml_lexer.proofs.cut.advanced.Given as goal

-- the place so far, moved over the rest, is that behind all
abbrev pub invariant-loop-byte : goal.invariant-loop-byte
invariant-loop-byte l = record {
  rest : place_after (record { line = l.line; column = l.column }) (drop l.byte-index l.bytes) ≡ place_after l.fn.place l.bytes;
  line : l.line ≤ l.fn.place.line + l.byte-index;
  column : l.column ≤ l.fn.place.column + l.byte-index;
}
