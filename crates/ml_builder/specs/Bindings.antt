-- Bindings, and the forms that have them as their parts.
use Rattle.std.specs.Prelude.{ℕ, true, false, List, ◌∷◌, drop, Option, Some, None}
use Rattle.fx_base.specs.declared.refusal.Place.{Place}
use Rattle.ml_syntax.specs.declared.node.Name.{Name}
use Rattle.ml_syntax.specs.declared.node.Binding.{Binding}
use Rattle.ml_syntax.specs.declared.node.Binding.TheVariants as binding
use Rattle.ml_syntax.specs.declared.node.Node.{Node}
use Rattle.ml_syntax.specs.declared.node.Node.TheVariants as node
use Rattle.ml_builder.specs.declared.reduction.Rule.{Rule}
use Rattle.ml_builder.specs.declared.reduction.Rule.TheVariants as rule
use Rattle.ml_builder.specs.Stack.{top}
use Rattle.ml_builder.specs.Finished.{finished_of}

unfoldable pub made_binding : Rule → ℕ → List Name → List ℕ → List Binding → Option (List Name × List ℕ × List Binding)
made_binding rule.PatternBinding c ws (b ∷ q ∷ ks) bs = Some (ws, ks, binding.Pattern q b ∷ bs)
made_binding rule.NamedBinding c (x ∷ ws) (b ∷ ks) bs = Some (ws, drop c ks, binding.Named x (top c ks) None b ∷ bs)
made_binding rule.AnnotatedBinding c (x ∷ ws) (b ∷ t ∷ ks) bs = Some (ws, drop c ks, binding.Named x (top c ks) (Some t) b ∷ bs)
made_binding _ _ _ _ _ = None

unfoldable pub made_let : Rule → Place → ℕ → List Binding → List ℕ → List Node → Option (List Binding × List ℕ × List Node)
made_let rule.Let p c bs (e ∷ ks) ns = finished_of (node.Let p false (top c bs) e) (drop c bs) ks ns
made_let rule.LetRecursive p c bs (e ∷ ks) ns = finished_of (node.Let p true (top c bs) e) (drop c bs) ks ns
made_let _ _ _ _ _ _ = None
