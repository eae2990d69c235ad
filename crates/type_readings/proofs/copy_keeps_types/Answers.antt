use Rattle.type_readings.proofs.Copying.{copy_keeps_types_law, copy_keeps_readings_law}
use Rattle.type_readings.proofs.copy_keeps_types.Goals as goal

-- src/lib.rt
pub returns : goal.returns
returns c = record { types = copy_keeps_types_law; readings = copy_keeps_readings_law }
