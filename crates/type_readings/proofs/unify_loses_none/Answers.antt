use Rattle.type_readings.proofs.Unification.{loses_none_law}
use Rattle.type_readings.proofs.unify_loses_none.Goals as goal

-- src/lib.rt
pub returns : goal.returns
returns c = loses_none_law
