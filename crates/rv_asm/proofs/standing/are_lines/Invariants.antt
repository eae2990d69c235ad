use Rattle.std.proofs.Common.{◌≡◌, ℕ, ◌<◌, Some, length}
use Rattle.std.specs.Prelude.{slice_get}
use Rattle.rv_model.specs.declared.line.Line.{Line}
use Rattle.rv_asm.specs.Layout.{line_of}
use Rattle.rv_asm.specs.Standing.{StandsAt, label_of}
use Rattle.rv_asm.proofs.standing.are_lines.Given as goal

-- the lines so far stand where they may
abbrev pub invariant-loop-place : goal.invariant-loop-place
invariant-loop-place l =
    (k : ℕ) (line : Line) → k < l.place → slice_get l.lines k ≡ Some line → StandsAt (length l.lines) k (line_of l.lines (label_of line)) line
