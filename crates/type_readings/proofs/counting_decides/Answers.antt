use Rattle.type_readings.proofs.Sizing.{counted_is_read_law, uncounted_is_unread_law}
use Rattle.type_readings.proofs.counting_decides.Goals as goal

-- src/lib.rt
pub returns : goal.returns
returns c = record { counted = counted_is_read_law; uncounted = uncounted_is_unread_law }
