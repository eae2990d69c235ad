use Rattle.type_readings.proofs.OuterArguments.{built_in_is_copyable_law, variable_keeps_copyable_law, application_keeps_copyable_law}
use Rattle.type_readings.proofs.making_keeps_copyable.Goals as goal

-- src/lib.rt
pub returns : goal.returns
returns c = record { built_in = built_in_is_copyable_law; variable = variable_keeps_copyable_law; applied = application_keeps_copyable_law }
