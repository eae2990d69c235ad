use Rattle.type_readings.proofs.Made.{made_is_longer_law, made_keeps_types_law, made_keeps_form_law, made_keeps_readings_law}
use Rattle.type_readings.proofs.Signatures.{signature_is_made_law, signature_has_numbers_law}
use Rattle.type_readings.proofs.signatures_are_made.Goals as goal

-- src/lib.rt
pub returns : goal.returns
returns c = record {
  made = signature_is_made_law;
  numbers = signature_has_numbers_law;
  longer = made_is_longer_law;
  types = made_keeps_types_law;
  form = made_keeps_form_law;
  reads = made_keeps_readings_law;
}
