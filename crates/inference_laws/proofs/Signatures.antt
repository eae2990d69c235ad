-- What is kept where the types of an operation are made.
use Rattle.effect_meaning.specs.declared.core_nodes.Operation.{Operation}
use Rattle.type_graph.specs.Graph.{Graph}
use Rattle.type_graph.specs.Signatures.{signature_of}
use Rattle.type_readings.specs.SignatureRules.{IsMade, NothingMade, VariableMade, TypeMade}
use Rattle.ml_infer.specs.declared.inference.Inference.{Inference}
use Rattle.inference_laws.proofs.Kept.{Kept, Has, HasAll}
use Rattle.inference_laws.proofs.GraphLaws.{GraphLaws}
use Rattle.inference_laws.proofs.Steps.{inner_made, variable_made}

module _ (l : GraphLaws) (s0 s : Inference) (kept : Kept s0 s) where
  -- further types are made
  pub made_kept : (h : Graph) → IsMade s.types h → Kept s0 (record s { types = h })
  made_kept _ NothingMade = kept
  made_kept _ (VariableMade h m) = variable_made l s0 (record s { types = h }) (made_kept h m)
  made_kept _ (TypeMade c ns h numbers m) = inner_made l s0 (record s { types = h }) c ns (made_kept h m) (λ room. numbers)

module _ (l : GraphLaws) (s0 s : Inference) (op : Operation) where
  -- the state with the types of an operation
  abbrev pub signed : Inference
  signed = record s { types = (signature_of op s.types).types }

  pub signed_kept : Kept s0 s → Kept s0 signed
  signed_kept kept = made_kept l s0 s kept (signature_of op s.types).types (l.signature_made op s.types kept.first)

  pub parts_are : Kept s0 s → HasAll signed (signature_of op s.types).signature.parts
  parts_are kept room = (l.signature_numbers op s.types kept.first).parts

  pub gives_is : Kept s0 s → Has signed (signature_of op s.types).signature.gives
  gives_is kept room = (l.signature_numbers op s.types kept.first).gives
