use Rattle.effect_meaning.proofs.OneShot.{empty_stays, one_shot_law}
use Rattle.effect_meaning.proofs.Resumptions.{resumption_empties, repetition_raises}
use Rattle.effect_meaning.proofs.one_shot.Goals as goal

-- src/lib.rt
pub returns : goal.returns
returns c = record { at_most_once = one_shot_law; empties = resumption_empties; stays_empty = empty_stays; raises_again = repetition_raises }
