use Rattle.type_readings.proofs.OuterArguments.{built_in_is_giving_law, variable_keeps_giving_law, application_keeps_giving_law, copyable_is_giving_law}
use Rattle.type_readings.proofs.making_keeps_giving.Goals as goal

-- src/lib.rt
pub returns : goal.returns
returns c = record {
  built_in = built_in_is_giving_law;
  variable = variable_keeps_giving_law;
  applied = application_keeps_giving_law;
  copied = copyable_is_giving_law;
}
