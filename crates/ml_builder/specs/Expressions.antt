-- The forms of expressions that have expressions and types as their parts.
use Rattle.std.specs.Prelude.{ℕ, List, ◌∷◌, drop, Option, Some, None}
use Rattle.fx_base.specs.declared.refusal.Place.{Place}
use Rattle.ml_syntax.specs.declared.node.Node.{Node}
use Rattle.ml_syntax.specs.declared.node.Node.TheVariants as node
use Rattle.ml_builder.specs.declared.reduction.Rule.{Rule}
use Rattle.ml_builder.specs.declared.reduction.Rule.TheVariants as rule
use Rattle.ml_builder.specs.Stack.{top}
use Rattle.ml_builder.specs.Finished.{finished}

-- brackets
unfoldable pub made_bracket : Rule → Place → List ℕ → List Node → Option (List ℕ × List Node)
made_bracket rule.Bracket p (e ∷ ks) ns = finished (node.Bracket p e) ks ns
made_bracket rule.BeginEnd p (e ∷ ks) ns = finished (node.BeginEnd p e) ks ns
made_bracket rule.Annotated p (t ∷ e ∷ ks) ns = finished (node.Annotated p e t) ks ns
made_bracket _ _ _ _ = None

-- so many expressions
unfoldable pub made_several : Rule → Place → ℕ → List ℕ → List Node → Option (List ℕ × List Node)
made_several rule.List p c ks ns = finished (node.List p (top c ks)) (drop c ks) ns
made_several rule.Array p c ks ns = finished (node.Array p (top c ks)) (drop c ks) ns
made_several rule.Tuple p c ks ns = finished (node.Tuple p (top c ks)) (drop c ks) ns
made_several rule.Sequence p c ks ns = finished (node.Sequence p (top c ks)) (drop c ks) ns
made_several _ _ _ _ _ = None

-- `while` and `if`
unfoldable pub made_control : Rule → Place → List ℕ → List Node → Option (List ℕ × List Node)
made_control rule.While p (b ∷ e ∷ ks) ns = finished (node.While p e b) ks ns
made_control rule.If p (a ∷ e ∷ ks) ns = finished (node.If p e a None) ks ns
made_control rule.IfElse p (b ∷ a ∷ e ∷ ks) ns = finished (node.If p e a (Some b)) ks ns
made_control _ _ _ _ = None

-- `fun`, of so many patterns and a body
unfoldable pub made_fun : Place → ℕ → List ℕ → List Node → Option (List ℕ × List Node)
made_fun p c (b ∷ ks) ns = finished (node.Fun p (top c ks) b) (drop c ks) ns
made_fun _ _ _ _ = None
