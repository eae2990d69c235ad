use Rattle.effects_top.proofs.Wording.{joined_at}
use Rattle.effects_top.proofs.words.joined_parts.Goals as goal

pub returns : goal.returns
returns c = joined_at c.args.word.now c.split_once.result c.split_once.ensures.cases
