use Rattle.inference_laws.proofs.UsesRuled.{constructor_is_ruled_law, effect_is_ruled_law, field_is_ruled_law, mutable_is_ruled_law, record_is_ruled_law, task_keeps_members_law}
use Rattle.inference_laws.proofs.uses_are_ruled.Goals as goal

-- src/lib.rt
pub returns : goal.returns
returns c = record {
  constructor = constructor_is_ruled_law c.graphs_keep_laws.ensures;
  effect = effect_is_ruled_law c.graphs_keep_laws.ensures;
  field = field_is_ruled_law c.graphs_keep_laws.ensures;
  mutable = mutable_is_ruled_law;
  record_ = record_is_ruled_law;
  members = task_keeps_members_law;
}
