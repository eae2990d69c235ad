-- The forms of types that have parts.
use Rattle.std.specs.Prelude.{ℕ, List, ◌∷◌, drop, Option, None}
use Rattle.fx_base.specs.declared.refusal.Place.{Place}
use Rattle.ml_syntax.specs.declared.node.Node.{Node}
use Rattle.ml_syntax.specs.declared.node.Node.TheVariants as node
use Rattle.ml_builder.specs.declared.reduction.Rule.{Rule}
use Rattle.ml_builder.specs.declared.reduction.Rule.TheVariants as rule
use Rattle.ml_builder.specs.Stack.{top}
use Rattle.ml_builder.specs.Finished.{finished}

unfoldable pub made_type : Rule → Place → ℕ → List ℕ → List Node → Option (List ℕ × List Node)
made_type rule.TypeBracket p c (t ∷ ks) ns = finished (node.TypeBracket p t) ks ns
made_type rule.TypeTuple p c ks ns = finished (node.TypeTuple p (top c ks)) (drop c ks) ns
made_type rule.TypeArrow p c (b ∷ a ∷ ks) ns = finished (node.TypeArrow p a b) ks ns
made_type _ _ _ _ _ = None
