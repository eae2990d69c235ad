use Rattle.type_readings.proofs.Making.{variable_asks_nothing_law, application_is_read_law}
use Rattle.type_readings.proofs.making_is_read.Goals as goal

-- src/lib.rt
pub returns : goal.returns
returns c = record { variable = variable_asks_nothing_law; applied = application_is_read_law }
