use Rattle.type_readings.proofs.Ending.{outer_keeps_giving_law}
use Rattle.type_readings.proofs.outer_keeps_giving.Goals as goal

-- src/lib.rt
pub returns : goal.returns
returns c = record { made = outer_keeps_giving_law }
