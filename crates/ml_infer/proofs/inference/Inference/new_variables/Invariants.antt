use Rattle.std.proofs.Common.{◌≡◌, ◌-◌}
use Rattle.ml_infer.specs.Constructors.{new_variables}
use Rattle.ml_infer.proofs.Fresh.{behind}
use Rattle.ml_infer.proofs.inference.Inference.new_variables.Given as goal

-- those that are made and those that are left are all
abbrev pub invariant-loop-made : goal.invariant-loop-made
invariant-loop-made l = behind l.found.items (new_variables (l.count - l._made) l.self) ≡ new_variables l.count l.fn.self
