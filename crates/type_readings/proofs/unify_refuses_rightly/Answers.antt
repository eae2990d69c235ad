use Rattle.type_readings.proofs.Unification.{refuses_rightly_law}
use Rattle.type_readings.proofs.unify_refuses_rightly.Goals as goal

-- src/lib.rt
pub returns : goal.returns
returns c = refuses_rightly_law
