use Rattle.type_readings.proofs.CopyReadings.{copy_reads_law, copy_is_free_law}
use Rattle.type_readings.proofs.copy_stands_for_original.Goals as goal

-- src/lib.rt
pub returns : goal.returns
returns c = record { reads = copy_reads_law; free = copy_is_free_law }
