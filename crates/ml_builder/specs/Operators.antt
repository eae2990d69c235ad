-- Operators, applications and elements.
use Rattle.std.specs.Prelude.{ℕ, List, [], ◌∷◌, drop, Option, None}
use Rattle.fx_base.specs.declared.refusal.Place.{Place}
use Rattle.ml_syntax.specs.declared.node.Node.{Node}
use Rattle.ml_syntax.specs.declared.node.Node.TheVariants as node
use Rattle.ml_builder.specs.declared.reduction.Rule.{Rule}
use Rattle.ml_builder.specs.declared.reduction.Rule.TheVariants as rule
use Rattle.ml_builder.specs.Stack.{top}
use Rattle.ml_builder.specs.Finished.{finished}

-- a function, which stands below its arguments
abbrev pub made_application : List ℕ → List ℕ → List Node → Option (List ℕ × List Node)
made_application es [] ns = None
made_application es (f ∷ ks) ns = finished (node.Apply f es) ks ns

-- operators and applications
unfoldable pub made_operation : Rule → Place → ℕ → List ℕ → List Node → Option (List ℕ × List Node)
made_operation rule.Dereference p c (e ∷ ks) ns = finished (node.Dereference p e) ks ns
made_operation rule.Negate p c (e ∷ ks) ns = finished (node.Negate p e) ks ns
made_operation (rule.Binary o) p c (b ∷ a ∷ ks) ns = finished (node.Binary p o a b) ks ns
made_operation rule.Apply p c ks ns = made_application (top c ks) (drop c ks) ns
made_operation _ _ _ _ _ = None

-- elements
unfoldable pub made_element : Rule → Place → List ℕ → List Node → Option (List ℕ × List Node)
made_element rule.ArrayElement p (i ∷ e ∷ ks) ns = finished (node.ArrayElement p e i) ks ns
made_element rule.StringElement p (i ∷ e ∷ ks) ns = finished (node.StringElement p e i) ks ns
made_element rule.SetElement p (v ∷ i ∷ e ∷ ks) ns = finished (node.SetElement p e i v) ks ns
made_element _ _ _ _ = None
