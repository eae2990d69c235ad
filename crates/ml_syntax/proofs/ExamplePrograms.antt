-- Worked texts: their tokens, nodes and depth. They hold by computation.
use Rattle.std.proofs.Common.{◌≡◌, ℕ, List, [], ◌∷◌, Option, Some, None, codes, refl, inl, inr, lit≤}
use Rattle.fx_base.specs.declared.refusal.Place.{Place}
use Rattle.ml_lexer.specs.declared.token.TokenKind.TheVariants as kinds
use Rattle.ml_syntax.specs.declared.node.Name.{Name}
use Rattle.ml_syntax.specs.declared.node.LongName.{LongName}
use Rattle.ml_syntax.specs.declared.node.Binding.TheVariants as bindings
use Rattle.ml_syntax.specs.declared.node.BinaryOperator.TheVariants as operators
use Rattle.ml_syntax.specs.declared.node.Node.TheVariants as node
use Rattle.ml_syntax.specs.declared.prog.Item.TheVariants as item
use Rattle.ml_syntax.specs.Role.{word_role, kind_role, text_role}
use Rattle.ml_syntax.specs.Level.{operator_level, is_operator, operator_of}
use Rattle.ml_syntax.specs.Tree.{name_pattern, variable, binary, bound_name, one_binding, let_item, no_items, more_items, ProgTree, spelled_prog}
use Rattle.ml_syntax.specs.Programs.{IsProgram}
use Rattle.ml_syntax.specs.Parses.{program_of}
use Rattle.ml_syntax.specs.Depth.{parts, forms, depths_behind, greatest, depth}
use Rattle.ml_syntax.proofs.ExampleTrees.{lower, sign}

abbrev pub place : Place
place = record { line = 1; column = 1 }

abbrev pub name : List ℕ → Name
name t = record { place = place; text = t }

abbrev pub long : List ℕ → LongName
long t = record { place = place; path = []; last = name t }

-- let f x = x + x
abbrev pub double_tree : ProgTree
double_tree =
    record {
      items = more_items no_items [] (let_item (sign kinds.Let) None (one_binding (bound_name (lower (codes "f"))
          (name_pattern (lower (codes "x")) ∷ []) None (sign kinds.Equals)
          (binary (variable [] (lower (codes "x"))) (sign kinds.Plus) (variable [] (lower (codes "x")))))));
      ending = [];
    }

pub double_tokens : spelled_prog double_tree ≡
    sign kinds.Let ∷ lower (codes "f") ∷ lower (codes "x") ∷ sign kinds.Equals ∷ lower (codes "x") ∷ sign kinds.Plus ∷ lower (codes "x") ∷ []
double_tokens = refl

pub double_is_program : IsProgram double_tree
unfolding word_role kind_role text_role operator_level is_operator operator_of
double_is_program = (
  (
    tt,
    tt,
    tt,
    (
      refl,
      tt,
      (
        (
          refl,
          (refl, refl, tt),
          tt,
          refl,
          (refl, ((tt, refl), lit≤ tt, tt), (tt, refl), inl (lit≤ tt)),
          inl (lit≤ tt),
        ),
        tt,
      ),
    ),
  ),
  tt,
)

pub double_program : program_of double_tree ≡ record {
  nodes =
      node.PatternName place (codes "x") ∷ node.Variable (long (codes "x")) ∷ node.Variable (long (codes "x"))
      ∷ node.Binary place operators.Add 1 2 ∷ [];
  items = item.Let place Rattle.std.proofs.Common.false (bindings.Named (name (codes "f")) (0 ∷ []) None 3 ∷ []) ∷ [];
}
unfolding kind_role text_role operator_of
double_program = refl

-- a sum of two names is as deep as one of two operands
pub double_depth : depth (program_of double_tree).nodes ≡ 2
unfolding kind_role text_role operator_of parts forms depths_behind greatest
double_depth = refl
