-- The forms of patterns that have patterns as their parts.
use Rattle.std.specs.Prelude.{ℕ, List, ◌∷◌, drop, Option, None}
use Rattle.fx_base.specs.declared.refusal.Place.{Place}
use Rattle.ml_syntax.specs.declared.node.Node.{Node}
use Rattle.ml_syntax.specs.declared.node.Node.TheVariants as node
use Rattle.ml_builder.specs.declared.reduction.Rule.{Rule}
use Rattle.ml_builder.specs.declared.reduction.Rule.TheVariants as rule
use Rattle.ml_builder.specs.Stack.{top}
use Rattle.ml_builder.specs.Finished.{finished}

unfoldable pub made_pattern : Rule → Place → ℕ → List ℕ → List Node → Option (List ℕ × List Node)
made_pattern rule.PatternBracket p c (q ∷ ks) ns = finished (node.PatternBracket p q) ks ns
made_pattern rule.PatternAnnotated p c (t ∷ q ∷ ks) ns = finished (node.PatternAnnotated p q t) ks ns
made_pattern rule.PatternList p c ks ns = finished (node.PatternList p (top c ks)) (drop c ks) ns
made_pattern rule.PatternCons p c (b ∷ a ∷ ks) ns = finished (node.PatternCons p a b) ks ns
made_pattern rule.PatternTuple p c ks ns = finished (node.PatternTuple p (top c ks)) (drop c ks) ns
made_pattern rule.PatternOr p c (b ∷ a ∷ ks) ns = finished (node.PatternOr p a b) ks ns
made_pattern _ _ _ _ _ = None
