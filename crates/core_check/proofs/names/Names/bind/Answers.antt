use Rattle.std.proofs.Common.{◌≡◌, ◌∷◌, reverse, false, arith}
use Rattle.effect_meaning.specs.Scoped.{holds}
use Rattle.core_check.proofs.Lists.{bound_key}
use Rattle.core_check.proofs.names.Names.bind.Goals as goal

pub returns-clause-bound : goal.returns-clause-bound
returns-clause-bound c =
    let absent : holds (reverse c.self.inside.numbers.keys) c.args.name ≡ false = grind arith in
    let bound : reverse c.insert.new.self.keys ≡ c.args.name ∷ reverse c.self.inside.numbers.keys =
    bound_key c.self.inside.numbers.keys c.insert.new.self.keys c.args.name c.in_ok-insert.ensures.keys absent in
    λ _. grind (arith, bound)
