-- Items.
use Rattle.std.specs.Prelude.{ℕ, true, false, List, [], ◌∷◌, ◌++◌, drop, Option, Some, None, option_map}
use Rattle.fx_base.specs.declared.refusal.Place.{Place}
use Rattle.ml_syntax.specs.declared.node.Name.{Name}
use Rattle.ml_syntax.specs.declared.node.LongName.{LongName}
use Rattle.ml_syntax.specs.declared.node.Binding.{Binding}
use Rattle.ml_syntax.specs.declared.prog.ConstructorDefinition.{ConstructorDefinition}
use Rattle.ml_syntax.specs.declared.prog.TypeDefinition.{TypeDefinition}
use Rattle.ml_syntax.specs.declared.prog.EffectDefinition.{EffectDefinition}
use Rattle.ml_syntax.specs.declared.prog.Item.{Item}
use Rattle.ml_syntax.specs.declared.prog.Item.TheVariants as item
use Rattle.ml_builder.specs.declared.reduction.Rule.{Rule}
use Rattle.ml_builder.specs.declared.reduction.Rule.TheVariants as rule
use Rattle.ml_builder.specs.Stack.{top}
use Rattle.ml_builder.specs.Names.{made_long_name}

unfoldable pub made_expression_item : Place → List ℕ → List Item → Option (List ℕ × List Item)
made_expression_item p (e ∷ ks) is = Some (ks, is ++ item.Expression p e ∷ [])
made_expression_item _ _ _ = None

unfoldable pub made_let_item : Rule → Place → ℕ → List Binding → List Item → Option (List Binding × List Item)
made_let_item rule.LetItem p c bs is = Some (drop c bs, is ++ item.Let p false (top c bs) ∷ [])
made_let_item rule.LetRecursiveItem p c bs is = Some (drop c bs, is ++ item.Let p true (top c bs) ∷ [])
made_let_item _ _ _ _ _ = None

unfoldable pub made_types_item : Place → ℕ → List TypeDefinition → List Item → Option (List TypeDefinition × List Item)
made_types_item p c ds is = Some (drop c ds, is ++ item.Types p (top c ds) ∷ [])

unfoldable pub made_effects_item : Place → ℕ → List LongName → List EffectDefinition → List Item → Option (List LongName × List EffectDefinition × List Item)
made_effects_item p c (x ∷ xs) es is = Some (xs, drop c es, is ++ item.Effects p x (top c es) ∷ [])
made_effects_item _ _ _ _ _ = None

unfoldable pub made_exception_item : Place → List ConstructorDefinition → List Item → Option (List ConstructorDefinition × List Item)
made_exception_item p (d ∷ ds) is = Some (ds, is ++ item.Exception p d ∷ [])
made_exception_item _ _ _ = None

unfoldable pub made_open_item : Place → ℕ → List Name → List Item → Option (List Name × List Item)
made_open_item p c ws is = option_map (λ q. (q.1, is ++ item.Open p q.0 ∷ [])) (made_long_name c ws)
