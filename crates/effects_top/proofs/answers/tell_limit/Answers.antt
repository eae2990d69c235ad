use Rattle.effects_top.proofs.answers.tell_limit.Goals as goal

pub returns : goal.returns
returns g c = rw c.kind_word.ensures at c.write_pieces.ensures
