use Rattle.type_readings.proofs.Unification.{keeps_form_law, keeps_numbers_law}
use Rattle.type_readings.proofs.unify_keeps_form.Goals as goal

-- src/lib.rt
pub returns : goal.returns
returns c = record { form = keeps_form_law; numbers = keeps_numbers_law }
