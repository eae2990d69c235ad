use Rattle.std.proofs.Common.{◌≡◌, drop}
use Rattle.ml_infer.specs.Inference.{valued}
use Rattle.ml_infer.specs.Terms.{named_each}
use Rattle.ml_infer.proofs.inference.Inference.names_each.Given as goal

-- what comes of the fields that are left comes of all
abbrev pub invariant-loop-part : goal.invariant-loop-part
invariant-loop-part l =
    named_each l.arena l.of_type (drop l.part-index l.parts) (valued l.is_right l.self)
    ≡ named_each l.arena l.of_type l.parts (valued l.initial.is_right l.initial.self)
