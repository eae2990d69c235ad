use Rattle.std.proofs.Common.{◌≡◌, ◌+◌, drop}
use Rattle.ml_lexer.specs.Values.{indent}
use Rattle.ml_lexer.proofs.values.indent_len.Given as goal

-- what is passed so far, and what passes of the rest
abbrev pub invariant-loop-i : goal.invariant-loop-i
invariant-loop-i l = indent l.bytes ≡ l.i + indent (drop l.i l.bytes)
