use Rattle.type_readings.proofs.Unification.{equates_law}
use Rattle.type_readings.proofs.unify_equates.Goals as goal

-- src/lib.rt
pub returns : goal.returns
returns c = equates_law
