use Rattle.type_readings.proofs.Ending.{outer_keeps_copyable_law, end_is_copyable_law}
use Rattle.type_readings.proofs.outer_is_copyable.Goals as goal

-- src/lib.rt
pub returns : goal.returns
returns c = record { made = outer_keeps_copyable_law; ended = end_is_copyable_law }
