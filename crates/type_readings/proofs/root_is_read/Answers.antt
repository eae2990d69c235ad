use Rattle.type_readings.proofs.Rows.{root_is_root, root_is_equal}
use Rattle.type_readings.proofs.root_is_read.Goals as goal

-- src/lib.rt
pub returns : goal.returns
returns c = record { root = root_is_root; equal = λ g f. root_is_equal f g }
