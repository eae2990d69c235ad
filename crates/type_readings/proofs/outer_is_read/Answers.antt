use Rattle.type_readings.proofs.Alike.{outer_keeps_form_law, outer_asks_nothing_law, end_keeps_form_law, end_asks_nothing_law}
use Rattle.type_readings.proofs.outer_is_read.Goals as goal

-- src/lib.rt
pub returns : goal.returns
returns c = record {
  outer_form = outer_keeps_form_law;
  outer_reads = outer_asks_nothing_law;
  end_form = end_keeps_form_law;
  end_reads = end_asks_nothing_law;
}
