use Rattle.std.proofs.Common.{◌≡◌, map, take}
use Rattle.rv_asm.specs.Found.{line_named}
use Rattle.rv_asm.proofs.labels.named_lines.Given as goal

-- the lines so far have their numbers
abbrev pub invariant-loop-line : goal.invariant-loop-line
invariant-loop-line l = l.named.items ≡ map (line_named l.lines) (take l.line-index l.lines)
