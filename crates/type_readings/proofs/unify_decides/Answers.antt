use Rattle.type_readings.proofs.Unification.{decides_pair_law}
use Rattle.type_readings.proofs.unify_decides.Goals as goal

-- src/lib.rt
pub returns : goal.returns
returns c = decides_pair_law
