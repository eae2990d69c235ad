use Rattle.type_readings.proofs.Making.{variable_keeps_form_law, application_keeps_form_law}
use Rattle.type_readings.proofs.Starting.{built_in_law}
use Rattle.type_readings.proofs.making_keeps_form.Goals as goal

-- src/lib.rt
pub returns : goal.returns
returns c = record { built_in = built_in_law; variable = variable_keeps_form_law; applied = application_keeps_form_law }
