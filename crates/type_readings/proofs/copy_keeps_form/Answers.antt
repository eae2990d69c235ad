use Rattle.type_readings.proofs.CopyForms.{copy_keeps_form_law, copy_is_number_law, copy_keeps_copyable_law}
use Rattle.type_readings.proofs.copy_keeps_form.Goals as goal

-- src/lib.rt
pub returns : goal.returns
returns c = record { number = copy_is_number_law; form = copy_keeps_form_law; copyable = copy_keeps_copyable_law }
