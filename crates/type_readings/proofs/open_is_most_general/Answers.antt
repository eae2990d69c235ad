use Rattle.type_readings.proofs.Opening.{open_is_most_general_law}
use Rattle.type_readings.proofs.open_is_most_general.Goals as goal

-- src/lib.rt
pub returns : goal.returns
returns c = open_is_most_general_law
