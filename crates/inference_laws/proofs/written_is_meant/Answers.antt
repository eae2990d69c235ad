use Rattle.inference_laws.proofs.WrittenMeant.{item_type_is_meant_law, declared_type_is_meant_law, written_leads_law}
use Rattle.inference_laws.proofs.written_is_meant.Goals as goal

-- src/lib.rt
pub returns : goal.returns
returns c = record {
  item = item_type_is_meant_law c.graphs_keep_laws.ensures;
  declared = declared_type_is_meant_law c.graphs_keep_laws.ensures;
  leads = written_leads_law c.graphs_keep_laws.ensures;
}
