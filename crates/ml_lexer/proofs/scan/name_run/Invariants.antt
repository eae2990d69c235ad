use Rattle.std.proofs.Common.{◌≡◌, ◌+◌, drop}
use Rattle.ml_lexer.specs.Bytes.{continues_name}
use Rattle.ml_lexer.specs.Scan.{run}
use Rattle.ml_lexer.proofs.scan.name_run.Given as goal

-- what is passed so far, and what passes of the rest
abbrev pub invariant-loop-i : goal.invariant-loop-i
invariant-loop-i l = run continues_name l.bytes ≡ l.i + run continues_name (drop l.i l.bytes)
