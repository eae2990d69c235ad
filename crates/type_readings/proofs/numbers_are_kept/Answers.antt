use Rattle.type_readings.proofs.Staying.{copy_keeps_numbers_law}
use Rattle.type_readings.proofs.BecomingOuter.{outer_keeps_numbers_law, end_keeps_numbers_law}
use Rattle.type_readings.proofs.numbers_are_kept.Goals as goal

-- src/lib.rt
pub returns : goal.returns
returns c = record { outer = outer_keeps_numbers_law; ended = end_keeps_numbers_law; copied = copy_keeps_numbers_law }
