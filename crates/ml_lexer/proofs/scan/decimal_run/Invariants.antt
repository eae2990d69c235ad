use Rattle.std.proofs.Common.{◌≡◌, ◌+◌, drop}
use Rattle.ml_lexer.specs.Bytes.{is_digit}
use Rattle.ml_lexer.specs.Forms.{or_underscore}
use Rattle.ml_lexer.specs.Scan.{run}
use Rattle.ml_lexer.proofs.scan.decimal_run.Given as goal

-- what is passed so far, and what passes of the rest
abbrev pub invariant-loop-i : goal.invariant-loop-i
invariant-loop-i l = run (or_underscore is_digit) l.bytes ≡ l.i + run (or_underscore is_digit) (drop l.i l.bytes)
