use Rattle.type_readings.proofs.Staying.{variable_keeps_fixed_law, application_keeps_fixed_law, application_is_fixed_law, made_keeps_fixed_law, copy_keeps_fixed_law}
use Rattle.type_readings.proofs.BecomingOuter.{outer_keeps_fixed_law, end_keeps_fixed_law}
use Rattle.type_readings.proofs.fixed_types_stay.Goals as goal

-- src/lib.rt
pub returns : goal.returns
returns c = record {
  variable = variable_keeps_fixed_law;
  applied = application_keeps_fixed_law;
  itself = application_is_fixed_law;
  made = made_keeps_fixed_law;
  outer = outer_keeps_fixed_law;
  ended = end_keeps_fixed_law;
  copied = copy_keeps_fixed_law;
}
