-- What a token does behind an expression.
use Rattle.std.specs.Prelude.{ℕ, true, false, nat_le, Option, None, ◌||◌, if◌then◌else◌}
use Rattle.ml_syntax.specs.declared.role.Role.{Role}
use Rattle.ml_syntax.specs.declared.role.Role.TheVariants as roles
use Rattle.ml_syntax.specs.declared.node.BinaryOperator.{BinaryOperator}
use Rattle.ml_builder.specs.declared.reduction.Rule.TheVariants as rules
use Rattle.ml_moves.specs.declared.form.Form.{Form}
use Rattle.ml_moves.specs.declared.form.Form.TheVariants as forms
use Rattle.ml_moves.specs.declared.form.HandlerKind.{HandlerKind}
use Rattle.ml_moves.specs.declared.form.HandlerKind.TheVariants as kinds
use Rattle.ml_moves.specs.declared.form.Missing.{Missing}
use Rattle.ml_moves.specs.declared.awaits.Awaits.TheVariants as waits
use Rattle.ml_moves.specs.declared.moves.Change.TheVariants as changes
use Rattle.ml_moves.specs.declared.moves.Move.{Move}
use Rattle.ml_moves.specs.declared.level.Last.{Last}
use Rattle.ml_moves.specs.declared.level.Last.TheVariants as lasts
use Rattle.ml_syntax.specs.Level.{begins_argument, operator_level, is_operator, operator_of}
use Rattle.ml_moves.specs.Moves.{goes, by, by_two, by_three}
use Rattle.ml_moves.specs.Level.{level_of}

-- an argument behind an expression, in this form
unfoldable pub apply : Form → Option Move
apply forms.Apply = by (changes.Count forms.Apply) waits.Expression
apply (forms.HandleFirst kind) = by (changes.Become (forms.HandleSecond kind)) waits.Expression
apply (forms.HandleSecond _) = goes waits.After
apply _ = by (changes.Open forms.Apply 1) waits.Expression

-- an argument behind what was made last
unfoldable pub apply_last : Form → Last → Option Move
apply_last form lasts.Loose = None
apply_last form lasts.Handled = None
apply_last form _ = apply form

-- an argument behind an expression; any other token is left
unfoldable pub join_expression : Role → Form → Last → Option Move
join_expression role form last = if begins_argument role then (apply_last form last) else (goes waits.After)

-- a form of this level and its second part, where such a form may stand
unfoldable pub open_operation : ℕ → Form → Form → Option Move
open_operation level form outer = if nat_le level (level_of outer) then (by (changes.Open form 2) waits.Expression) else None

-- an operator behind an expression
unfoldable pub operate : BinaryOperator → Form → Last → Option Move
operate operator form lasts.Loose = None
operate operator form _ = open_operation (operator_level operator) (forms.Operating operator) form

-- a further part of a tuple, or a tuple
unfoldable pub pair_with : Form → Option Move
pair_with forms.Tuple = by (changes.Count forms.Tuple) waits.Expression
pair_with form = open_operation 13 forms.Tuple form

-- a comma behind an expression
unfoldable pub pair : Form → Last → Option Move
pair form lasts.Loose = None
pair form _ = pair_with form

-- a dot behind an expression
unfoldable pub select_from : Last → Option Move
select_from lasts.Loose = None
select_from lasts.Handled = None
select_from _ = by (changes.Open forms.Select 1) waits.Selecting

-- a sequence, where one may stand
unfoldable pub open_sequence : Form → Option Move
open_sequence form = if nat_le 16 (level_of form) then (by (changes.Open forms.Sequence 1) waits.Sequel) else None

-- a semicolon behind the value of a handler's field
unfoldable pub next_handler_field : Missing → Option Move
next_handler_field missing = if (missing.retc || missing.exnc) || missing.effc then (by (changes.Leaf rules.NamedPart) waits.HandlerField) else None

-- a semicolon behind an expression
unfoldable pub follow : Form → Option Move
follow forms.Sequence = goes waits.Sequel
follow forms.List = by (changes.Count forms.List) waits.Expression
follow forms.Array = by (changes.Count forms.Array) waits.Expression
follow forms.Record = by (changes.Leaf rules.NamedPart) waits.Field
follow (forms.HandlerFields missing) = next_handler_field missing
follow form = open_sequence form

-- a `)` behind an expression
unfoldable pub close_parenthesis : Form → Option Move
close_parenthesis forms.Parenthesis = by (changes.Close rules.Bracket) waits.After
close_parenthesis forms.Index = goes waits.Indexed
close_parenthesis forms.Answer = by_two (changes.Close rules.Resumption) (changes.Leaf rules.EffectRule) waits.RuleBar
close_parenthesis _ = None

-- a `]` behind an expression
unfoldable pub close_bracket : Form → Option Move
close_bracket forms.List = by (changes.Close rules.List) waits.After
close_bracket forms.Pick = by (changes.Close rules.StringElement) waits.After
close_bracket _ = None

-- a `|]` behind an expression
unfoldable pub close_array : Form → Option Move
close_array forms.Array = by (changes.Close rules.Array) waits.After
close_array _ = None

-- a `}` behind the value of a handler's field: the handler, and the function that takes it
unfoldable pub close_handler : Missing → Option Move
close_handler missing = if (missing.retc || missing.exnc) || missing.effc then None else (by_three (changes.Leaf rules.NamedPart) (changes.Close rules.Handler) (changes.Close rules.Handle) waits.After)

-- a `}` behind an expression
unfoldable pub close_brace : Form → Option Move
close_brace forms.Record = by_two (changes.Leaf rules.NamedPart) (changes.Close rules.Record) waits.After
close_brace (forms.HandlerFields missing) = close_handler missing
close_brace _ = None

-- the fields of a handler
unfoldable pub all_missing : HandlerKind → Missing
all_missing kinds.Full = record { retc = true; exnc = true; effc = true }
all_missing kinds.EffectsOnly = record { retc = false; exnc = false; effc = true }

-- a `{` behind the arguments of a function that takes a handler
unfoldable pub open_handler : Form → Option Move
open_handler (forms.HandleSecond kind) = by (changes.Open (forms.HandlerFields (all_missing kind)) 0) waits.HandlerField
open_handler _ = None

-- a colon behind an expression
unfoldable pub annotate : Form → Option Move
annotate forms.Parenthesis = by (changes.Become forms.Annotation) waits.Type
annotate _ = None

-- a `->` behind a guard
unfoldable pub to_guarded_answer : Form → Option Move
to_guarded_answer forms.ValueGuard = by (changes.Become forms.GuardedAnswer) waits.Expression
to_guarded_answer forms.ExceptionGuard = by (changes.Become forms.GuardedExceptionAnswer) waits.Expression
to_guarded_answer _ = None

-- a `then` behind an expression
unfoldable pub then_choose : Form → Option Move
then_choose forms.IfCondition = by (changes.Become forms.IfThen) waits.Expression
then_choose _ = None

-- an `else` behind an expression
unfoldable pub else_choose : Form → Option Move
else_choose forms.IfThen = by (changes.Become forms.IfElse) waits.Expression
else_choose _ = None

-- a `do` behind an expression
unfoldable pub open_loop_body : Form → Option Move
open_loop_body forms.WhileCondition = by (changes.Become forms.WhileBody) waits.Expression
open_loop_body forms.ForUpTo = by (changes.Become forms.ForUpward) waits.Expression
open_loop_body forms.ForDownTo = by (changes.Become forms.ForDownward) waits.Expression
open_loop_body _ = None

-- a `done` behind an expression
unfoldable pub close_loop : Form → Option Move
close_loop forms.WhileBody = by (changes.Close rules.While) waits.After
close_loop forms.ForUpward = by (changes.Close rules.ForUpward) waits.After
close_loop forms.ForDownward = by (changes.Close rules.ForDownward) waits.After
close_loop _ = None

-- a `to` or a `downto` behind an expression, which makes the form another
unfoldable pub open_bound : Form → Form → Option Move
open_bound forms.ForFirst bounded = by (changes.Become bounded) waits.Expression
open_bound _ bounded = None

-- an `end` behind an expression
unfoldable pub close_begin : Form → Option Move
close_begin forms.Begin = by (changes.Close rules.BeginEnd) waits.After
close_begin _ = None

-- a `with` behind an expression
unfoldable pub open_clauses : Form → Option Move
open_clauses forms.MatchSubject = by (changes.Become forms.MatchClauses) waits.FirstClause
open_clauses forms.TryBody = by (changes.Become forms.TryClauses) waits.FirstClause
open_clauses _ = None

-- a token that ends an expression, in this form
unfoldable pub end : Role → Form → Option Move
end roles.RightParenthesis form = close_parenthesis form
end roles.RightBracket form = close_bracket form
end roles.RightArrayBracket form = close_array form
end roles.RightBrace form = close_brace form
end roles.LeftBrace form = open_handler form
end roles.Colon form = annotate form
end roles.RightArrow form = to_guarded_answer form
end roles.Then form = then_choose form
end roles.Else form = else_choose form
end roles.Do form = open_loop_body form
end roles.Done form = close_loop form
end roles.To form = open_bound form forms.ForUpTo
end roles.Downto form = open_bound form forms.ForDownTo
end roles.End form = close_begin form
end roles.With form = open_clauses form
end _ form = None

-- a token behind an expression that is no operator
unfoldable pub after_operand : Role → Form → Last → Option Move
after_operand roles.Comma form last = pair form last
after_operand roles.Semicolon form last = follow form
after_operand roles.Dot form last = select_from last
after_operand role form last = end role form

-- a token behind an expression in this form, where this was made last
unfoldable pub after_expression : Role → Form → Last → Option Move
after_expression role form last = if is_operator role then (operate (operator_of role) form last) else (after_operand role form last)
