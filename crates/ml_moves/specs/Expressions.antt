-- What a token does where an expression begins, and within names, fields and records.
use Rattle.std.specs.Prelude.{ℕ, nat_le, Option, Some, None, ◌&&◌, ◌==◌, if◌then◌else◌}
use Rattle.ml_syntax.specs.declared.role.Role.{Role}
use Rattle.ml_syntax.specs.declared.role.Role.TheVariants as roles
use Rattle.ml_builder.specs.declared.reduction.Rule.{Rule}
use Rattle.ml_builder.specs.declared.reduction.Rule.TheVariants as rules
use Rattle.ml_moves.specs.declared.form.Form.{Form}
use Rattle.ml_moves.specs.declared.form.Form.TheVariants as forms
use Rattle.ml_moves.specs.declared.form.Position.TheVariants as positions
use Rattle.ml_moves.specs.declared.form.HandlerKind.{HandlerKind}
use Rattle.ml_moves.specs.declared.form.HandlerKind.TheVariants as kinds
use Rattle.ml_moves.specs.declared.awaits.Awaits.{Awaits}
use Rattle.ml_moves.specs.declared.awaits.Awaits.TheVariants as waits
use Rattle.ml_moves.specs.declared.moves.Change.{Change}
use Rattle.ml_moves.specs.declared.moves.Change.TheVariants as changes
use Rattle.ml_moves.specs.declared.moves.Move.{Move}
use Rattle.ml_syntax.specs.Level.{begins_argument, begins_expression, takes}
use Rattle.ml_moves.specs.Moves.{goes, by, by_two, by_three}
use Rattle.ml_moves.specs.Level.{level_of}

-- the least integer, which stands only directly behind a prefix `-`
unfoldable pub begin_least : Form → Option Move
begin_least forms.Negate = by (changes.Leaf rules.LeastInteger) waits.After
begin_least _ = None

-- a form that opens where one of this level may stand
unfoldable pub open_looser : ℕ → Form → Form → Option Move
open_looser level form outer = if nat_le level (level_of outer) then (by (changes.Open form 1) waits.Expression) else None

-- a form of level 17 that opens: as a last operand, and not as an argument
unfoldable pub open_loosest : Form → Awaits → Form → Option Move
open_loosest form next outer = if (level_of outer) == 2 then None else (by (changes.Open form 1) next)

-- a function that takes a handler: its name, and the function with its arguments
unfoldable pub open_handled : HandlerKind → Form → Option Move
open_handled kind outer = if nat_le 3 (level_of outer) then (by_two (changes.Name rules.LongName) (changes.Open (forms.HandleFirst kind) 1) waits.Expression) else None

-- a token where an expression begins that is no argument
unfoldable pub begin_looser : Role → Form → Option Move
begin_looser roles.Minus outer = open_looser 4 forms.Negate outer
begin_looser roles.If outer = open_looser 15 forms.IfCondition outer
begin_looser roles.Let outer = open_loosest (forms.Let positions.Inside) waits.FirstBinding outer
begin_looser roles.Match outer = open_loosest forms.MatchSubject waits.Expression outer
begin_looser roles.Try outer = open_loosest forms.TryBody waits.Expression outer
begin_looser roles.Fun outer = open_loosest forms.FunParameters waits.Pattern outer
begin_looser roles.Function outer = open_loosest forms.FunctionClauses waits.FirstClause outer
begin_looser roles.TakesHandler outer = open_handled kinds.Full outer
begin_looser roles.TakesEffects outer = open_handled kinds.EffectsOnly outer
begin_looser _ outer = None

-- a token where an expression begins, in this form
unfoldable pub begin : Role → Form → Option Move
begin roles.Lower outer = by (changes.Name rules.Variable) waits.After
begin roles.Upper outer = by_two (changes.Leaf rules.Word) (changes.Open forms.Path 1) waits.Constructed
begin roles.Integer outer = by (changes.Leaf rules.Constant) waits.After
begin roles.Character outer = by (changes.Leaf rules.Constant) waits.After
begin roles.Text outer = by (changes.Leaf rules.Constant) waits.After
begin roles.True outer = by (changes.Leaf rules.Constant) waits.After
begin roles.False outer = by (changes.Leaf rules.Constant) waits.After
begin roles.LeastInteger outer = begin_least outer
begin roles.LeftParenthesis outer = by (changes.Open forms.Parenthesis 1) waits.ExpressionOrUnit
begin roles.LeftBracket outer = by (changes.Open forms.List 1) waits.ExpressionOrEmpty
begin roles.LeftArrayBracket outer = by (changes.Open forms.Array 1) waits.ExpressionOrEmpty
begin roles.LeftBrace outer = by (changes.Open forms.Record 0) waits.Field
begin roles.Begin outer = by (changes.Open forms.Begin 1) waits.Expression
begin roles.While outer = by (changes.Open forms.WhileCondition 1) waits.Expression
begin roles.For outer = by (changes.Open forms.ForFirst 1) waits.Counter
begin roles.Bang outer = by (changes.Open forms.Dereference 1) waits.Expression
begin role outer = begin_looser role outer

-- a token where a function literal has to begin
unfoldable pub begin_literal : Role → Option Move
begin_literal roles.Fun = by (changes.Open forms.FunParameters 1) waits.Pattern
begin_literal roles.Function = by (changes.Open forms.FunctionClauses 1) waits.FirstClause
begin_literal _ = None

-- a `)` directly behind `(`
unfoldable pub close_unit : Role → Option Move
close_unit roles.RightParenthesis = by (changes.Empty rules.Unit) waits.After
close_unit _ = None

-- a closing bracket directly behind `[`
unfoldable pub close_empty_list : Role → Option Move
close_empty_list roles.RightBracket = by (changes.Empty rules.List) waits.After
close_empty_list _ = None

-- a closing bracket directly behind `[|`
unfoldable pub close_empty_array : Role → Option Move
close_empty_array roles.RightArrayBracket = by (changes.Empty rules.Array) waits.After
close_empty_array _ = None

-- a closing bracket directly behind the opening one of a list or an array
unfoldable pub close_empty : Role → Form → Option Move
close_empty role forms.List = close_empty_list role
close_empty role forms.Array = close_empty_array role
close_empty role _ = None

-- a token behind a constructor, in this form: a dot is left; what may be an argument is its own one, where an application may stand
unfoldable pub complete_constructor : Role → Form → Option Move
complete_constructor roles.Dot outer = goes waits.Constructed
complete_constructor role outer = if (begins_argument role) && (nat_le 3 (level_of outer)) then (by_two (changes.Close rules.LongName) (changes.Open forms.Construct 1) waits.Expression) else (by (changes.Close rules.Constructor) waits.After)

-- a dot behind a constructor
unfoldable pub after_constructor : Role → Option Move
after_constructor roles.Dot = goes waits.Member
after_constructor _ = None

-- a token behind a constructor and a dot: a bracket shows that the constructor stood alone; any other one is left
unfoldable pub complete_member : Role → Option Move
complete_member roles.LeftParenthesis = by (changes.Close rules.Constructor) waits.AfterDot
complete_member roles.LeftBracket = by (changes.Close rules.Constructor) waits.AfterDot
complete_member _ = goes waits.Member

-- a function that takes a handler, behind the path of its name
unfoldable pub open_handled_member : HandlerKind → Form → Option Move
open_handled_member kind outer = if nat_le 3 (level_of outer) then (by_three (changes.Leaf rules.Word) (changes.Count forms.Path) (changes.Turn rules.LongName (forms.HandleFirst kind)) waits.Expression) else None

-- a name behind upper names and a dot, in this form
unfoldable pub take_member : Role → Form → Option Move
take_member roles.Upper outer = by_two (changes.Leaf rules.Word) (changes.Count forms.Path) waits.Constructed
take_member roles.Lower outer = by_three (changes.Leaf rules.Word) (changes.Count forms.Path) (changes.Close rules.Variable) waits.After
take_member roles.TakesHandler outer = open_handled_member kinds.Full outer
take_member roles.TakesEffects outer = open_handled_member kinds.EffectsOnly outer
take_member _ outer = None

-- a token behind an expression and a dot
unfoldable pub select : Role → Option Move
select roles.Lower = by (changes.Leaf rules.Word) waits.Selected
select roles.LeftParenthesis = by (changes.Become forms.Index) waits.Expression
select roles.LeftBracket = by (changes.Become forms.Pick) waits.Expression
select _ = None

-- a token behind `e.f`: an arrow is left, and any other one shows that the form is whole
unfoldable pub complete_selected : Role → Option Move
complete_selected roles.LeftArrow = goes waits.Selected
complete_selected _ = by (changes.Close rules.Field) waits.After

-- a token behind `e.(e)`, likewise
unfoldable pub complete_indexed : Role → Option Move
complete_indexed roles.LeftArrow = goes waits.Indexed
complete_indexed _ = by (changes.Close rules.ArrayElement) waits.After

-- an assignment, where one may stand
unfoldable pub open_assignment : Form → Form → Option Move
open_assignment form outer = if nat_le 14 (level_of outer) then (by (changes.Restart form) waits.Expression) else None

-- an arrow behind `e.f`, in this form
unfoldable pub set_field : Role → Form → Option Move
set_field roles.LeftArrow outer = open_assignment forms.SetField outer
set_field _ outer = None

-- an arrow behind `e.(e)`, in this form
unfoldable pub set_element : Role → Form → Option Move
set_element roles.LeftArrow outer = open_assignment forms.SetElement outer
set_element _ outer = None

-- a token where a field's name comes
unfoldable pub name_field : Role → Option Move
name_field roles.Lower = by_two (changes.Leaf rules.Word) (changes.Count forms.Record) waits.FieldEquals
name_field _ = None

-- a token where the name of a counter comes
unfoldable pub name_counter : Role → Option Move
name_counter roles.Lower = by (changes.Leaf rules.Word) waits.CounterEquals
name_counter _ = None

-- a token behind the name of a field or of a counter
unfoldable pub equals_expression : Role → Option Move
equals_expression roles.Equals = goes waits.Expression
equals_expression _ = None

-- the end of a sequence that has so many parts: one part alone is no sequence
unfoldable pub sequence_of : ℕ → Change
sequence_of parts = if nat_le 2 parts then (changes.Close rules.Sequence) else changes.Withdraw

-- the end of a sequence, and then of the form whose body it is
unfoldable pub end_with_outer : ℕ → Option Rule → Option Move
end_with_outer parts (Some rule) = by_two (sequence_of parts) (changes.Close rule) waits.After
end_with_outer parts None = None

-- a token behind the semicolon of a sequence of so many parts: a further part, or the end. What goes on with an expression then goes on with the form that this sequence is the body of, which is made by the rule `outer`
unfoldable pub complete_sequence : Role → ℕ → Option Rule → Option Move
complete_sequence role parts outer = if begins_expression role then (by (changes.Count forms.Sequence) waits.Expression) else (if takes role 16 then (end_with_outer parts outer) else (by (sequence_of parts) waits.After))
