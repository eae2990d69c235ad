use Rattle.std.proofs.Common.{◌≡◌, true, arith}
use Rattle.core_check.specs.Effects.{effects_by}
use Rattle.core_check.proofs.TypedEffects.{effects_hold}
use Rattle.core_check.proofs.effects.effects_hold.Goals as goal

pub returns : goal.returns
returns c = λ h has.
    let held : effects_by c.args.arena.now.types c.args.table.now c.args.arena.now.effect_rows ≡ true = grind arith in
    effects_hold c.args.arena.now c.args.table.now c.types.ensures.stand held has
