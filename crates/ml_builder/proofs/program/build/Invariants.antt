use Rattle.std.proofs.Common.{◌≡◌, drop}
use Rattle.ml_builder.specs.Reduced.{built, nothing}
use Rattle.ml_builder.proofs.program.build.Given as goal

abbrev pub invariant-loop-reduction : goal.invariant-loop-reduction
invariant-loop-reduction l = built l.tokens.lexemes (drop l.reduction-index l.reductions) l.building ≡ built l.tokens.lexemes l.reductions nothing
