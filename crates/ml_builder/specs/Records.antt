-- Fields, and the forms that have them as their parts.
use Rattle.std.specs.Prelude.{ℕ, true, false, List, ◌∷◌, drop, Option, Some, None}
use Rattle.fx_base.specs.declared.refusal.Place.{Place}
use Rattle.ml_syntax.specs.declared.node.Name.{Name}
use Rattle.ml_syntax.specs.declared.node.NamedPart.{NamedPart}
use Rattle.ml_syntax.specs.declared.node.Node.{Node}
use Rattle.ml_syntax.specs.declared.node.Node.TheVariants as node
use Rattle.ml_builder.specs.declared.reduction.Rule.{Rule}
use Rattle.ml_builder.specs.declared.reduction.Rule.TheVariants as rule
use Rattle.ml_builder.specs.Stack.{top}
use Rattle.ml_builder.specs.Finished.{finished_of}

-- what stands behind the name of a field
unfoldable pub made_part : List Name → List ℕ → List NamedPart → Option (List Name × List ℕ × List NamedPart)
made_part (x ∷ ws) (k ∷ ks) fs = Some (ws, ks, record { name = x; part = k } ∷ fs)
made_part _ _ _ = None

unfoldable pub made_record : Rule → Place → ℕ → List NamedPart → List ℕ → List Node → Option (List NamedPart × List ℕ × List Node)
made_record rule.PatternRecord p c fs ks ns = finished_of (node.PatternRecord p (top c fs) false) (drop c fs) ks ns
made_record rule.PatternRecordOpen p c fs ks ns = finished_of (node.PatternRecord p (top c fs) true) (drop c fs) ks ns
made_record rule.Record p c fs ks ns = finished_of (node.Record p (top c fs)) (drop c fs) ks ns
made_record rule.Handler p c fs ks ns = finished_of (node.Handler p (top c fs)) (drop c fs) ks ns
made_record _ _ _ _ _ _ = None
