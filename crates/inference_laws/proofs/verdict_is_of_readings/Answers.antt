use Rattle.inference_laws.proofs.Verdicts.{walk_is_there_law, accepted_is_read_law, refused_is_unread_law, large_is_read_law}
use Rattle.inference_laws.proofs.verdict_is_of_readings.Goals as goal

-- src/lib.rt
pub returns : goal.returns
returns c =
    let walk = c.walk_is_whole.ensures.walk in
    let root = c.root_is_read.ensures.root in
    let equal = c.root_is_read.ensures.equal in
    let counted = c.counting_decides.ensures.counted in
    record {
      there = walk_is_there_law walk;
      accepted = accepted_is_read_law root equal counted walk;
      refused = refused_is_unread_law root equal counted walk c.counting_decides.ensures.uncounted;
      large = large_is_read_law root equal counted walk;
    }
