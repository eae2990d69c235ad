-- Clauses, and the forms that have them as their parts.
use Rattle.std.specs.Prelude.{ℕ, List, ◌∷◌, drop, Option, Some, None}
use Rattle.fx_base.specs.declared.refusal.Place.{Place}
use Rattle.ml_syntax.specs.declared.node.Clause.{Clause}
use Rattle.ml_syntax.specs.declared.node.Clause.TheVariants as clause
use Rattle.ml_syntax.specs.declared.node.Node.{Node}
use Rattle.ml_syntax.specs.declared.node.Node.TheVariants as node
use Rattle.ml_builder.specs.declared.reduction.Rule.{Rule}
use Rattle.ml_builder.specs.declared.reduction.Rule.TheVariants as rule
use Rattle.ml_builder.specs.Stack.{top}
use Rattle.ml_builder.specs.Finished.{finished_of}

unfoldable pub made_clause : Rule → Place → List ℕ → List Clause → Option (List ℕ × List Clause)
made_clause rule.ValueClause p (b ∷ q ∷ ks) cs = Some (ks, clause.Value q None b ∷ cs)
made_clause rule.GuardedClause p (b ∷ g ∷ q ∷ ks) cs = Some (ks, clause.Value q (Some g) b ∷ cs)
made_clause rule.EffectClause p (b ∷ k ∷ q ∷ ks) cs = Some (ks, clause.Effect p q k b ∷ cs)
made_clause _ _ _ _ = None

unfoldable pub made_exception_clause : Rule → Place → List ℕ → List Clause → Option (List ℕ × List Clause)
made_exception_clause rule.ExceptionClause p (b ∷ q ∷ ks) cs = Some (ks, clause.Exception p q None b ∷ cs)
made_exception_clause rule.GuardedExceptionClause p (b ∷ g ∷ q ∷ ks) cs = Some (ks, clause.Exception p q (Some g) b ∷ cs)
made_exception_clause _ _ _ _ = None

unfoldable pub made_match : Rule → Place → ℕ → List Clause → List ℕ → List Node → Option (List Clause × List ℕ × List Node)
made_match rule.Match p c cs (e ∷ ks) ns = finished_of (node.Match p e (top c cs)) (drop c cs) ks ns
made_match rule.Try p c cs (e ∷ ks) ns = finished_of (node.Try p e (top c cs)) (drop c cs) ks ns
made_match rule.Function p c cs ks ns = finished_of (node.Function p (top c cs)) (drop c cs) ks ns
made_match _ _ _ _ _ _ = None
