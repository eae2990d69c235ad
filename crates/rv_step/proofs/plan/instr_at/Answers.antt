use Rattle.std.proofs.lemmas.Option.{slice_get-get_or}
use Rattle.rv_model.proofs.WellFormed.{well_formed_at}
use Rattle.rv_step.proofs.plan.instr_at.Goals as goal

pub returns-clause-well_formed : goal.returns-clause-well_formed
returns-clause-well_formed c = well_formed_at c.args.instrs.now c.requires.well_formed c.args.at _ (slice_get-get_or c.args.instrs.now c.args.at _ c.requires.within)
