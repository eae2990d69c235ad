use Rattle.type_readings.proofs.Signatures.{signature_is_sound_law, signature_is_complete_law}
use Rattle.type_readings.proofs.signatures_are_rules.Goals as goal

-- src/lib.rt
pub returns : goal.returns
returns c = record { sound = signature_is_sound_law; complete = signature_is_complete_law }
