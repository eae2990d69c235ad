use Rattle.std.proofs.Common.{◌≡◌, drop}
use Rattle.ml_infer.specs.Terms.{new_names}
use Rattle.ml_infer.proofs.inference.Inference.new_names.Given as goal

-- what comes of the functions that are left comes of all
abbrev pub invariant-loop-function : goal.invariant-loop-function
invariant-loop-function l = new_names (drop l.function-index l.functions) l.self ≡ new_names l.functions l.fn.self
