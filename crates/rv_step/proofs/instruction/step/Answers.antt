use Rattle.std.proofs.Common.{◌∙◌, sym, ap, subst}
use Rattle.rv_model.specs.Machine.{hart_of, plan, put}
use Rattle.rv_step.proofs.instruction.step.Goals as goal

pub returns-in-Moves-clause-led : goal.returns-in-Moves-clause-led
returns-in-Moves-clause-led g c =
    let h = hart_of c.args.hart.now in
    subst (g.M.Memory.leads c.args.memory.now c.args.code.now) (sym c.go.ensures)
    (g.met.M.Memory.goes_on c.args.memory.now c.args.code.now h c.in-Moves.to (put h.regs c.in-Moves.rd c.in-Moves.value) c.requires.led c.requires.below (sym (ap (λ n. plan n c.args.code.now h) c.size.ensures) ∙ sym c.in-Moves.ensures.is))
