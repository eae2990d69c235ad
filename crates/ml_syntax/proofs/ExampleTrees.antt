-- Worked derivations: for forms of each sort one that is well-formed, and one that isn't. They hold by computation.
use Rattle.std.proofs.Common.{◌≡◌, ℕ, ◌≤◌, true, false, List, [], ◌∷◌, Some, None, codes, refl, inl, inr, lit≤, arith}
use Rattle.ml_lexer.specs.declared.token.TokenKind.{TokenKind}
use Rattle.ml_lexer.specs.declared.token.TokenKind.TheVariants as kinds
use Rattle.ml_lexer.specs.Lexeme.{Lexeme}
use Rattle.ml_syntax.specs.Role.{word_role, integer_role, kind_role, text_role}
use Rattle.ml_syntax.specs.Level.{operator_level, is_operator, operator_of, begins_argument, joined_level}
use Rattle.ml_syntax.specs.Tree.{TypeTree, type_name, type_apply, type_tuple, type_arrow, one_type, PatternTree, any_pattern, name_pattern, cons_pattern, or_pattern, by_function, Tree, variable, least, apply, handle, negate, binary, choice, choice_else, sequence, trailed, binding, matching, abstraction, effect_cases, one, argument, more_arguments, one_field, plain, one_clause, more_clauses, bound_name, one_binding, no_rules}
use Rattle.ml_syntax.specs.Grammar.{IsType, IsPattern, IsExpression, IsBindingOf}

-- a token of this kind and these bytes
abbrev pub lexeme : TokenKind → List ℕ → Lexeme
lexeme k t = record { kind = k; text = t; place = record { line = 1; column = 1 } }

-- a token of this kind, whose bytes don't matter
abbrev pub sign : TokenKind → Lexeme
sign k = lexeme k []

abbrev pub lower : List ℕ → Lexeme
lower t = lexeme kinds.LowerName t

abbrev pub x : Tree
x = variable [] (lower (codes "x"))

abbrev pub y : Tree
y = variable [] (lower (codes "y"))

abbrev pub any : PatternTree
any = any_pattern (sign kinds.Underscore)

-- x + y * x
pub product_in_sum : IsExpression false (binary x (sign kinds.Plus) (binary y (sign kinds.Star) x))
unfolding word_role kind_role text_role operator_level is_operator operator_of
product_in_sum =
    (refl, ((tt, refl), lit≤ tt, tt), (refl, ((tt, refl), lit≤ tt, tt), (tt, refl), inl (lit≤ tt)), inl (lit≤ tt))

-- not so where the sum is the product's operand: its level is looser
pub sum_in_product : IsExpression false (binary (binary x (sign kinds.Plus) y) (sign kinds.Star) x) → ⊥
unfolding word_role kind_role text_role operator_level is_operator operator_of
sum_in_product h = let loose : 7 ≤ 6 = h.1.1 in omega arith

-- let y = x in y
abbrev pub let_y : Tree
let_y =
    binding (sign kinds.Let) None (one_binding (bound_name (lower (codes "y")) [] None (sign kinds.Equals) x)) (sign kinds.In) y

-- x + let y = x in y
pub let_as_last_operand : IsExpression false (binary x (sign kinds.Plus) let_y)
unfolding word_role kind_role text_role operator_level is_operator operator_of
let_as_last_operand = (
  refl,
  ((tt, refl), lit≤ tt, tt),
  (refl, tt, ((refl, tt, tt, refl, (tt, refl), inl (lit≤ tt)), tt), refl, (tt, refl), inl (lit≤ tt)),
  inr refl,
)

-- x + if x then y
pub if_as_last_operand : IsExpression false (binary x (sign kinds.Plus) (choice (sign kinds.If) x (sign kinds.Then) y)) → ⊥
unfolding word_role kind_role text_role operator_level is_operator operator_of
if_as_last_operand h = elim h.3 [ inl p ↦ (let loose : 15 ≤ 6 = p in omega arith) | inr q ↦ (let other : 15 ≡ 17 = q in omega arith) ]

-- the body of a `let` takes in a sequence
pub let_before_semicolon : IsExpression false (sequence let_y (sign kinds.Semicolon) (one x)) → ⊥
unfolding word_role kind_role text_role begins_argument joined_level
let_before_semicolon h = cc

-- x; and no second semicolon
pub one_trailing : IsExpression false (trailed x (sign kinds.Semicolon))
unfolding word_role kind_role text_role
one_trailing = ((tt, refl), inl (lit≤ tt), refl, tt, refl)

pub two_trailing : IsExpression false (trailed (trailed x (sign kinds.Semicolon)) (sign kinds.Semicolon)) → ⊥
two_trailing h = cc

-- x y x, and no function without brackets as an argument
pub application : IsExpression false (apply x (more_arguments (argument y) x))
unfolding word_role kind_role text_role begins_argument
application = ((tt, refl), lit≤ tt, tt, (((tt, refl), lit≤ tt), (refl, tt), (tt, refl), lit≤ tt))

pub function_as_argument : IsExpression false (apply x (argument (abstraction (sign kinds.Fun) (any ∷ []) (sign kinds.RightArrow) y))) → ⊥
function_as_argument h = let loose : 17 ≤ 2 = h.3.1 in omega arith

-- if x then if x then y else y: the `else` is the inner one's
abbrev pub inner_if : Tree
inner_if = choice (sign kinds.If) x (sign kinds.Then) y

pub outer_else : IsExpression false (choice_else (sign kinds.If) x (sign kinds.Then) inner_if (sign kinds.Else) y) → ⊥
unfolding word_role kind_role text_role
outer_else h = cc

-- match x with _ -> match x with _ -> y | _ -> y: the second bar is the inner one's
abbrev pub inner_match : Tree
inner_match =
    matching (sign kinds.Match) x (sign kinds.With) (one_clause None (plain any (sign kinds.RightArrow) y))

pub outer_bar : IsExpression false (matching (sign kinds.Match) x (sign kinds.With)
    (more_clauses (one_clause None (plain any (sign kinds.RightArrow) inner_match)) (sign kinds.Bar) (plain any (sign kinds.RightArrow) y))) → ⊥
unfolding word_role kind_role text_role
outer_bar h = cc

pub match_alone : IsExpression false inner_match
unfolding word_role kind_role text_role
match_alone = (refl, ((tt, refl), inl (lit≤ tt)), refl, (tt, tt, (refl, refl, (tt, refl), inl (lit≤ tt))))

-- - 4611686018427387904, and never without the sign
abbrev pub least_constant : Tree
least_constant = least (lexeme kinds.Integer (codes "4611686018427387904"))

pub least_behind_sign : IsExpression false (negate (sign kinds.Minus) least_constant)
unfolding integer_role kind_role text_role
least_behind_sign = (refl, (refl, refl), inl (lit≤ tt))

pub least_alone : IsExpression false least_constant → ⊥
least_alone h = let not_behind : false ≡ true = h.1 in cc

-- a name that takes a handler stands for nothing else
pub handler_name_alone : IsExpression false (variable [] (lower (codes "match_with"))) → ⊥
unfolding word_role text_role
handler_name_alone h = cc

-- try_with x y { effc = function _ -> None }
abbrev pub no_effects : Tree
no_effects =
    effect_cases (by_function (sign kinds.Function)) no_rules None (sign kinds.Underscore) (sign kinds.RightArrow) (lexeme kinds.UpperName (codes "None"))

abbrev pub tried : List ℕ → Tree
tried name =
    handle [] (lower name) x y (sign kinds.LeftBrace) (one_field (lower (codes "effc")) (sign kinds.Equals) no_effects) (sign kinds.RightBrace)

pub handler : IsExpression false (tried (codes "try_with"))
unfolding word_role kind_role text_role begins_argument
handler = (
  (tt, (refl, refl)),
  ((tt, refl), lit≤ tt, tt),
  ((tt, refl), lit≤ tt, tt),
  refl,
  (refl, refl, (refl, tt, tt, refl, refl, (refl, refl)), tt),
  refl,
)

-- match_with wants all three fields
pub short_handler : IsExpression false (tried (codes "match_with")) → ⊥
unfolding word_role text_role
short_handler h = let few : 1 ≡ 3 = h.0.1.0 in omega arith

-- let rec x = y
pub value_in_rec : IsBindingOf (Some (sign kinds.Rec)) (bound_name (lower (codes "x")) [] None (sign kinds.Equals) y) → ⊥
value_in_rec h = h

-- x :: _ | _, and no `|` inside `::`
pub or_of_cons : IsPattern (or_pattern (cons_pattern (name_pattern (lower (codes "x"))) (sign kinds.DoubleColon) any) (sign kinds.Bar) any)
unfolding word_role kind_role text_role
or_of_cons = ((refl, lit≤ tt, refl, refl, lit≤ tt), lit≤ tt, refl, refl, lit≤ tt)

pub or_in_cons : IsPattern (cons_pattern (or_pattern any (sign kinds.Bar) any) (sign kinds.DoubleColon) any) → ⊥
or_in_cons h = let loose : 4 ≤ 1 = h.1 in omega arith

abbrev pub int : TypeTree
int = type_name [] (lower (codes "int"))

-- int list -> int * int, and no arrow inside a tuple
pub arrow_to_tuple : IsType (type_arrow (type_apply int [] (lower (codes "list"))) (sign kinds.RightArrow)
    (type_tuple int (sign kinds.Star) (one_type int)))
unfolding word_role kind_role text_role
arrow_to_tuple =
    (((tt, refl), refl, tt, refl), lit≤ tt, refl, ((tt, refl), refl, refl, ((tt, refl), lit≤ tt)))

pub arrow_in_tuple : IsType (type_tuple (type_arrow int (sign kinds.RightArrow) int) (sign kinds.Star) (one_type int)) → ⊥
arrow_in_tuple h = let loose : 2 ≡ 0 = h.1 in omega arith
