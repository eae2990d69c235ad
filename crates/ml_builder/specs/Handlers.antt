-- Calls with a handler, and the parts of a handler's `effc`.
use Rattle.std.specs.Prelude.{ℕ, List, [], ◌∷◌, ◌++◌, drop, length, Option, Some, None}
use Rattle.fx_base.specs.declared.refusal.Place.{Place}
use Rattle.ml_syntax.specs.declared.node.Name.{Name}
use Rattle.ml_syntax.specs.declared.node.LongName.{LongName}
use Rattle.ml_syntax.specs.declared.node.EffectRule.{EffectRule}
use Rattle.ml_syntax.specs.declared.node.Node.{Node}
use Rattle.ml_syntax.specs.declared.node.Node.TheVariants as node
use Rattle.ml_builder.specs.declared.reduction.Rule.{Rule}
use Rattle.ml_builder.specs.declared.reduction.Rule.TheVariants as rule
use Rattle.ml_builder.specs.Stack.{top}
use Rattle.ml_builder.specs.Finished.{finished_of}

-- a function, two arguments and a handler
unfoldable pub made_handle : List LongName → List ℕ → List Node → Option (List LongName × List ℕ × List Node)
made_handle (x ∷ xs) (h ∷ e ∷ f ∷ ks) ns = finished_of (node.Handle x f e h) xs ks ns
made_handle _ _ _ = None

unfoldable pub made_effect_rule : List ℕ → List EffectRule → Option (List ℕ × List EffectRule)
made_effect_rule (a ∷ q ∷ ks) rs = Some (ks, record { pattern = q; answer = a } ∷ rs)
made_effect_rule _ _ = None

-- the answer of a rule, and the function of `effc`
unfoldable pub made_effect_function : Rule → Place → List Name → List ℕ → List Node → Option (List Name × List ℕ × List Node)
made_effect_function rule.Resumption p ws (b ∷ k ∷ ks) ns = finished_of (node.Resumption p k b) ws ks ns
made_effect_function rule.EffectFunction p ws (c ∷ q ∷ ks) ns = finished_of (node.EffectFunction p None q c) ws ks ns
made_effect_function rule.TypedEffectFunction p (x ∷ ws) (c ∷ q ∷ ks) ns = finished_of (node.EffectFunction p (Some x) q c) ws ks ns
made_effect_function _ _ _ _ _ = None

-- the rules of `effc`, with a subject
unfoldable pub made_match_cases : Place → ℕ → List Name → List EffectRule → List ℕ → List Node → Option (List Name × List EffectRule × List ℕ × List Node)
made_match_cases p c (x ∷ ws) rs (o ∷ ks) ns = Some (ws, drop c rs, length ns ∷ ks, ns ++ node.EffectCases p (Some x) (top c rs) o ∷ [])
made_match_cases _ _ _ _ _ _ = None

-- and without one
unfoldable pub made_function_cases : Place → ℕ → List EffectRule → List ℕ → List Node → Option (List EffectRule × List ℕ × List Node)
made_function_cases p c rs (o ∷ ks) ns = finished_of (node.EffectCases p None (top c rs) o) (drop c rs) ks ns
made_function_cases _ _ _ _ _ = None
