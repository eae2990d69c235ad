use Rattle.std.proofs.Common.{◌≡◌, drop}
use Rattle.ml_infer.specs.Items.{generalised_each}
use Rattle.ml_infer.proofs.inference.Inference.generalise_each.Given as goal

-- what comes of the functions that are left comes of all
abbrev pub invariant-loop-function : goal.invariant-loop-function
invariant-loop-function l = generalised_each (drop l.function-index l.functions) l.self ≡ generalised_each l.functions l.fn.self
