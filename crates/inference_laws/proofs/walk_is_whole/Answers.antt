use Rattle.inference_laws.proofs.Items.{task_keeps_whole_law, walk_is_whole_law}
use Rattle.inference_laws.proofs.walk_is_whole.Goals as goal

-- src/lib.rt
pub returns : goal.returns
returns c = record { task = task_keeps_whole_law c.graphs_keep_laws.ensures; walk = walk_is_whole_law c.graphs_keep_laws.ensures }
