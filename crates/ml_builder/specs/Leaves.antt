-- The forms of one token.
use Rattle.std.specs.Prelude.{ℕ, List, Option, None}
use Rattle.ml_lexer.specs.Lexeme.{Lexeme}
use Rattle.ml_syntax.specs.declared.node.Node.{Node}
use Rattle.ml_syntax.specs.declared.node.Node.TheVariants as node
use Rattle.ml_syntax.specs.Laid.{literal_of}
use Rattle.ml_builder.specs.declared.reduction.Rule.{Rule}
use Rattle.ml_builder.specs.declared.reduction.Rule.TheVariants as rule
use Rattle.ml_builder.specs.Finished.{finished}

unfoldable pub made_leaf : Rule → Lexeme → List ℕ → List Node → Option (List ℕ × List Node)
made_leaf rule.TypeVariable t ks ns = finished (node.TypeVariable t.place t.text) ks ns
made_leaf rule.TypeAny t ks ns = finished (node.TypeAny t.place) ks ns
made_leaf rule.PatternAny t ks ns = finished (node.PatternAny t.place) ks ns
made_leaf rule.PatternName t ks ns = finished (node.PatternName t.place t.text) ks ns
made_leaf rule.PatternConstant t ks ns = finished (node.PatternConstant t.place (literal_of t)) ks ns
made_leaf rule.PatternUnit t ks ns = finished (node.PatternUnit t.place) ks ns
made_leaf rule.Constant t ks ns = finished (node.Constant t.place (literal_of t)) ks ns
made_leaf rule.LeastInteger t ks ns = finished (node.LeastInteger t.place t.text) ks ns
made_leaf rule.Unit t ks ns = finished (node.Unit t.place) ks ns
made_leaf _ _ _ _ = None
