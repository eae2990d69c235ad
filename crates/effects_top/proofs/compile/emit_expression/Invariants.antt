use Rattle.std.proofs.Common.{◌≡◌, ◌++◌, drop}
use Rattle.effects_top.specs.Compiled.{lines_of, expression_code}
use Rattle.effects_top.proofs.compile.emit_expression.Given as goal

-- the lines so far and those of what is left are the whole
abbrev pub invariant-loop-part : goal.invariant-loop-part
invariant-loop-part l = l.lines.items ++ lines_of (expression_code (drop l.part-index l.postfix)) ≡ l.fn.lines.items ++ lines_of (expression_code l.fn.postfix)
