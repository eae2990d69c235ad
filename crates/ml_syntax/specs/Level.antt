-- The levels of the forms, from the tightest to the loosest, and how a token may go on with the form before it.
use Rattle.std.specs.Prelude.{ℕ, ◌-◌, Bool, true, false, nat_le, ◌||◌, if◌then◌else◌}
use Rattle.ml_syntax.specs.declared.role.Role.{Role}
use Rattle.ml_syntax.specs.declared.role.Role.TheVariants as roles
use Rattle.ml_syntax.specs.declared.node.BinaryOperator.{BinaryOperator}
use Rattle.ml_syntax.specs.declared.node.BinaryOperator.TheVariants as operators

-- the level of the form that an operator makes of two operands
unfoldable pub operator_level : BinaryOperator → ℕ
operator_level operators.ShiftLeft = 5
operator_level operators.ShiftRightLogical = 5
operator_level operators.ShiftRightArithmetic = 5
operator_level operators.Multiply = 6
operator_level operators.Divide = 6
operator_level operators.Modulo = 6
operator_level operators.LogicalAnd = 6
operator_level operators.LogicalOr = 6
operator_level operators.LogicalXor = 6
operator_level operators.Add = 7
operator_level operators.Subtract = 7
operator_level operators.Cons = 8
operator_level operators.Concatenate = 9
operator_level operators.Append = 9
operator_level operators.ApplyTo = 9
operator_level operators.Equal = 10
operator_level operators.Different = 10
operator_level operators.Same = 10
operator_level operators.NotSame = 10
operator_level operators.Below = 10
operator_level operators.Above = 10
operator_level operators.AtMost = 10
operator_level operators.AtLeast = 10
operator_level operators.Pipe = 10
operator_level operators.And = 11
operator_level operators.Or = 12
operator_level operators.Assign = 14

-- levels 6, 7 and 10 group to the left, the others to the right
abbrev pub groups_left : BinaryOperator → Bool
groups_left operators.Multiply = true
groups_left operators.Divide = true
groups_left operators.Modulo = true
groups_left operators.LogicalAnd = true
groups_left operators.LogicalOr = true
groups_left operators.LogicalXor = true
groups_left operators.Add = true
groups_left operators.Subtract = true
groups_left operators.Equal = true
groups_left operators.Different = true
groups_left operators.Same = true
groups_left operators.NotSame = true
groups_left operators.Below = true
groups_left operators.Above = true
groups_left operators.AtMost = true
groups_left operators.AtLeast = true
groups_left operators.Pipe = true
groups_left _ = false

-- the loosest level of an operator's left operand, and of its right one
abbrev pub left_level : BinaryOperator → ℕ
left_level o = if groups_left o then operator_level o else operator_level o - 1

abbrev pub right_level : BinaryOperator → ℕ
right_level o = if groups_left o then operator_level o - 1 else operator_level o

-- the token of an operator between two operands
unfoldable pub is_operator : Role → Bool
is_operator (roles.Infix o) = true
is_operator roles.Equals = true
is_operator roles.Star = true
is_operator roles.Minus = true
is_operator roles.DoubleColon = true
is_operator _ = false

-- which operator; no other role is an operator's
unfoldable pub operator_of : Role → BinaryOperator
operator_of (roles.Infix o) = o
operator_of roles.Star = operators.Multiply
operator_of roles.Minus = operators.Subtract
operator_of roles.DoubleColon = operators.Cons
operator_of _ = operators.Equal

-- an expression of level 1 or 2 may begin with this token, so that it may be an argument
unfoldable pub begins_argument : Role → Bool
begins_argument roles.Lower = true
begins_argument roles.Upper = true
begins_argument roles.Integer = true
begins_argument roles.Character = true
begins_argument roles.Text = true
begins_argument roles.True = true
begins_argument roles.False = true
begins_argument roles.LeftParenthesis = true
begins_argument roles.LeftBracket = true
begins_argument roles.LeftArrayBracket = true
begins_argument roles.LeftBrace = true
begins_argument roles.Begin = true
begins_argument roles.While = true
begins_argument roles.For = true
begins_argument roles.Bang = true
begins_argument _ = false

-- any other expression may begin with this token
unfoldable pub begins_looser : Role → Bool
begins_looser roles.TakesHandler = true
begins_looser roles.TakesEffects = true
begins_looser roles.Minus = true
begins_looser roles.If = true
begins_looser roles.Let = true
begins_looser roles.Match = true
begins_looser roles.Try = true
begins_looser roles.Fun = true
begins_looser roles.Function = true
begins_looser _ = false

abbrev pub begins_expression : Role → Bool
begins_expression r = begins_argument r || begins_looser r

-- the level of the form that a token makes with what stands before it, or 18, which is no level
unfoldable pub joined_level : Role → ℕ
joined_level roles.Dot = 2
joined_level (roles.Infix o) = operator_level o
joined_level roles.Star = 6
joined_level roles.Minus = 7
joined_level roles.DoubleColon = 8
joined_level roles.Equals = 10
joined_level roles.Comma = 13
joined_level roles.LeftArrow = 14
joined_level roles.Semicolon = 16
joined_level _ = 18

-- the same, where a token that begins an argument makes an application
abbrev pub goes_on : Role → ℕ
goes_on r = if begins_argument r then 3 else joined_level r

-- an operand that may have the levels up to a number takes in the token behind it
abbrev pub takes : Role → ℕ → Bool
takes r most = nat_le (goes_on r) most
