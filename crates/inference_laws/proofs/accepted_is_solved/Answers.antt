use Rattle.inference_laws.proofs.Sound.{accepted_is_solved_law}
use Rattle.inference_laws.proofs.accepted_is_solved.Goals as goal

-- src/lib.rt
pub returns : goal.returns
returns c = accepted_is_solved_law c.graphs_keep_laws.ensures c.verdict_is_of_readings.ensures.accepted
