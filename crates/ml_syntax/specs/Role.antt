-- What a token does in a program, by its kind and, for a lower name and an integer, by its text.
use Rattle.std.specs.Prelude.{ℕ, Bool, List, Option, Some, None, bytes_eq, codes, ◌==◌, ◌||◌, if◌then◌else◌}
use Rattle.ml_lexer.specs.declared.token.TokenKind.{TokenKind}
use Rattle.ml_lexer.specs.declared.token.TokenKind.TheVariants as kinds
use Rattle.ml_lexer.specs.Lexeme.{Lexeme}
use Rattle.ml_lexer.specs.Values.{value_of_integer}
use Rattle.ml_syntax.specs.declared.role.Role.{Role}
use Rattle.ml_syntax.specs.declared.role.Role.TheVariants as roles
use Rattle.ml_syntax.specs.declared.node.BinaryOperator.TheVariants as operators

-- three of the four names that take a handler
abbrev pub takes_handler : List ℕ → Bool
takes_handler t = bytes_eq t (codes "match_with") || (bytes_eq t (codes "continue_with") || bytes_eq t (codes "discontinue_with"))

-- what a lower name does
unfoldable pub word_role : List ℕ → Role
word_role t =
    if takes_handler t then roles.TakesHandler else (if bytes_eq t (codes "try_with") then roles.TakesEffects else roles.Lower)

-- what a token of this kind does, where its text doesn't matter
unfoldable pub kind_role : TokenKind → Role
kind_role kinds.LowerName = roles.Lower
kind_role kinds.UpperName = roles.Upper
kind_role kinds.TypeVariable = roles.TypeVariable
kind_role kinds.Integer = roles.Integer
kind_role kinds.Character = roles.Character
kind_role kinds.Text = roles.Text
kind_role kinds.LeftParenthesis = roles.LeftParenthesis
kind_role kinds.RightParenthesis = roles.RightParenthesis
kind_role kinds.LeftBracket = roles.LeftBracket
kind_role kinds.RightBracket = roles.RightBracket
kind_role kinds.LeftBrace = roles.LeftBrace
kind_role kinds.RightBrace = roles.RightBrace
kind_role kinds.LeftArrayBracket = roles.LeftArrayBracket
kind_role kinds.RightArrayBracket = roles.RightArrayBracket
kind_role kinds.Comma = roles.Comma
kind_role kinds.Semicolon = roles.Semicolon
kind_role kinds.DoubleSemicolon = roles.DoubleSemicolon
kind_role kinds.Colon = roles.Colon
kind_role kinds.DoubleColon = roles.DoubleColon
kind_role kinds.Dot = roles.Dot
kind_role kinds.RightArrow = roles.RightArrow
kind_role kinds.LeftArrow = roles.LeftArrow
kind_role kinds.ColonEquals = roles.Infix operators.Assign
kind_role kinds.Equals = roles.Equals
kind_role kinds.LessGreater = roles.Infix operators.Different
kind_role kinds.DoubleEquals = roles.Infix operators.Same
kind_role kinds.BangEquals = roles.Infix operators.NotSame
kind_role kinds.Less = roles.Infix operators.Below
kind_role kinds.Greater = roles.Infix operators.Above
kind_role kinds.LessEquals = roles.Infix operators.AtMost
kind_role kinds.GreaterEquals = roles.Infix operators.AtLeast
kind_role kinds.Plus = roles.Infix operators.Add
kind_role kinds.Minus = roles.Minus
kind_role kinds.Star = roles.Star
kind_role kinds.Slash = roles.Infix operators.Divide
kind_role kinds.Caret = roles.Infix operators.Concatenate
kind_role kinds.At = roles.Infix operators.Append
kind_role kinds.DoubleAt = roles.Infix operators.ApplyTo
kind_role kinds.BarGreater = roles.Infix operators.Pipe
kind_role kinds.DoubleAmpersand = roles.Infix operators.And
kind_role kinds.DoubleBar = roles.Infix operators.Or
kind_role kinds.Bang = roles.Bang
kind_role kinds.Bar = roles.Bar
kind_role kinds.PlusEquals = roles.PlusEquals
kind_role kinds.Underscore = roles.Underscore
kind_role kinds.And = roles.And
kind_role kinds.As = roles.As
kind_role kinds.Asr = roles.Infix operators.ShiftRightArithmetic
kind_role kinds.Begin = roles.Begin
kind_role kinds.Do = roles.Do
kind_role kinds.Done = roles.Done
kind_role kinds.Downto = roles.Downto
kind_role kinds.Effect = roles.Effect
kind_role kinds.Else = roles.Else
kind_role kinds.End = roles.End
kind_role kinds.Exception = roles.Exception
kind_role kinds.False = roles.False
kind_role kinds.For = roles.For
kind_role kinds.Fun = roles.Fun
kind_role kinds.Function = roles.Function
kind_role kinds.If = roles.If
kind_role kinds.In = roles.In
kind_role kinds.Land = roles.Infix operators.LogicalAnd
kind_role kinds.Let = roles.Let
kind_role kinds.Lor = roles.Infix operators.LogicalOr
kind_role kinds.Lsl = roles.Infix operators.ShiftLeft
kind_role kinds.Lsr = roles.Infix operators.ShiftRightLogical
kind_role kinds.Lxor = roles.Infix operators.LogicalXor
kind_role kinds.Match = roles.Match
kind_role kinds.Mod = roles.Infix operators.Modulo
kind_role kinds.Mutable = roles.Mutable
kind_role kinds.Of = roles.Of
kind_role kinds.Open = roles.Open
kind_role kinds.Rec = roles.Rec
kind_role kinds.Then = roles.Then
kind_role kinds.To = roles.To
kind_role kinds.True = roles.True
kind_role kinds.Try = roles.Try
kind_role kinds.Type = roles.Type
kind_role kinds.When = roles.When
kind_role kinds.While = roles.While
kind_role kinds.With = roles.With
kind_role _ = roles.Other

-- what an integer does: the least one stands only behind a prefix `-`
unfoldable pub integer_role : List ℕ → Role
integer_role t = of_value (value_of_integer t)
  where
    of_value : Option ℕ → Role
    of_value (Some n) = if n == 4611686018427387904 then roles.LeastInteger else roles.Integer
    of_value None = roles.Integer

unfoldable pub text_role : TokenKind → List ℕ → Role
text_role kinds.LowerName t = word_role t
text_role kinds.Integer t = integer_role t
text_role k t = kind_role k

-- what a token does
abbrev pub role : Lexeme → Role
role l = text_role l.kind l.text
