-- The forms that have words or a long name as a part.
use Rattle.std.specs.Prelude.{ℕ, true, false, List, ◌∷◌, drop, Option, Some, None, option_and_then}
use Rattle.fx_base.specs.declared.refusal.Place.{Place}
use Rattle.ml_syntax.specs.declared.node.Name.{Name}
use Rattle.ml_syntax.specs.declared.node.LongName.{LongName}
use Rattle.ml_syntax.specs.declared.node.Node.{Node}
use Rattle.ml_syntax.specs.declared.node.Node.TheVariants as node
use Rattle.ml_builder.specs.declared.reduction.Rule.{Rule}
use Rattle.ml_builder.specs.declared.reduction.Rule.TheVariants as rule
use Rattle.ml_builder.specs.Stack.{top}
use Rattle.ml_builder.specs.Finished.{finished_of}
use Rattle.ml_builder.specs.Names.{made_long_name}

-- the form that is a long name alone
abbrev pub name_node : Rule → LongName → Option Node
name_node rule.TypeName x = Some (node.TypeName x)
name_node rule.PatternConstructor x = Some (node.PatternConstructor x)
name_node rule.Variable x = Some (node.Variable x)
name_node rule.Constructor x = Some (node.Constructor x)
name_node _ _ = None

-- a form that is a long name of so many words
unfoldable pub made_name : Rule → ℕ → List Name → List ℕ → List Node → Option (List Name × List ℕ × List Node)
made_name r c ws ks ns = option_and_then (λ p. option_and_then (λ n. finished_of n p.1 ks ns) (name_node r p.0)) (made_long_name c ws)

-- a form with a word
unfoldable pub made_with_word : Rule → Place → List Name → List ℕ → List Node → Option (List Name × List ℕ × List Node)
made_with_word rule.PatternAlias p (x ∷ ws) (q ∷ ks) ns = finished_of (node.PatternAlias p q x) ws ks ns
made_with_word rule.Field p (x ∷ ws) (e ∷ ks) ns = finished_of (node.Field e x) ws ks ns
made_with_word rule.SetField p (x ∷ ws) (v ∷ e ∷ ks) ns = finished_of (node.SetField p e x v) ws ks ns
made_with_word _ _ _ _ _ = None

-- a `for`
unfoldable pub made_for : Rule → Place → List Name → List ℕ → List Node → Option (List Name × List ℕ × List Node)
made_for rule.ForUpward p (x ∷ ws) (b ∷ l ∷ f ∷ ks) ns = finished_of (node.For p x f false l b) ws ks ns
made_for rule.ForDownward p (x ∷ ws) (b ∷ l ∷ f ∷ ks) ns = finished_of (node.For p x f true l b) ws ks ns
made_for _ _ _ _ _ = None

-- a form with a long name
unfoldable pub made_with_long_name : Rule → ℕ → List LongName → List ℕ → List Node → Option (List LongName × List ℕ × List Node)
made_with_long_name rule.TypeApply c (x ∷ xs) ks ns = finished_of (node.TypeApply (top c ks) x) xs (drop c ks) ns
made_with_long_name rule.PatternConstruct c (x ∷ xs) (q ∷ ks) ns = finished_of (node.PatternConstruct x q) xs ks ns
made_with_long_name rule.Construct c (x ∷ xs) (e ∷ ks) ns = finished_of (node.Construct x e) xs ks ns
made_with_long_name _ _ _ _ _ = None
