use Rattle.type_readings.proofs.Connecting.{unify_keeps_giving_law, fixed_stay_law}
use Rattle.type_readings.proofs.unify_keeps_giving.Goals as goal

-- src/lib.rt
pub returns : goal.returns
returns c = record { giving = unify_keeps_giving_law; fixed = fixed_stay_law }
