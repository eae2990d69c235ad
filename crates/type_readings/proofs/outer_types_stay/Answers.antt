use Rattle.type_readings.proofs.Staying.{variable_keeps_outer_law, application_keeps_outer_law, made_keeps_outer_law, copy_keeps_outer_law}
use Rattle.type_readings.proofs.BecomingOuter.{outer_keeps_outer_law, outer_is_outer_still_law, they_become_outer_law, end_makes_outer_law}
use Rattle.type_readings.proofs.OuterOrGiven.{unify_keeps_outer_law}
use Rattle.type_readings.proofs.outer_types_stay.Goals as goal

-- src/lib.rt
pub returns : goal.returns
returns c = record {
  variable = variable_keeps_outer_law;
  applied = application_keeps_outer_law;
  made = made_keeps_outer_law;
  outer = outer_keeps_outer_law;
  copied = copy_keeps_outer_law;
  equated = unify_keeps_outer_law;
  still = outer_is_outer_still_law;
  made_outer = they_become_outer_law;
  ended = end_makes_outer_law;
}
