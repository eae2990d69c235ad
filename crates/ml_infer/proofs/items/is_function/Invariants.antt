use Rattle.std.proofs.Common.{◌≡◌, ◌-◌}
use Rattle.ml_infer.specs.Items.{is_function_at}
use Rattle.ml_infer.proofs.items.is_function.Given as goal

-- what the term at hand tells is told of the first
abbrev pub invariant-loop-annotation : goal.invariant-loop-annotation
invariant-loop-annotation l =
    is_function_at (4294967295 - l._annotation) l.arena l.at ≡ is_function_at 4294967295 l.arena l.term
