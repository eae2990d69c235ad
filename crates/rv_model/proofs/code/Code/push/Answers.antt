use Rattle.std.proofs.Common.{◌<◌, ◌∷◌, [], length, arith, length-append}
use Rattle.rv_model.proofs.WellFormed.{well_formed-push}
use Rattle.rv_model.proofs.code.Code.push.Goals as goal

-- one more instruction
pub invariant_of-self-2 : goal.invariant_of-self-2
invariant_of-self-2 c =
    let room : length c.self.inside.instrs.items < 262144 = rw c.self.view_is c.requires.short in
    rw c.in_ok-push.ensures.items
    (rw (length-append c.self.inside.instrs.items (c.args.instr ∷ [])) (omega (arith, room)), well_formed-push _ _ c.self.invariant.1 c.requires.well_formed)
