-- What a token does in a pattern.
use Rattle.std.specs.Prelude.{ℕ, nat_le, Option, None, ◌&&◌, if◌then◌else◌}
use Rattle.ml_syntax.specs.declared.role.Role.{Role}
use Rattle.ml_syntax.specs.declared.role.Role.TheVariants as roles
use Rattle.ml_builder.specs.declared.reduction.Rule.TheVariants as rules
use Rattle.ml_moves.specs.declared.form.Form.{Form}
use Rattle.ml_moves.specs.declared.form.Form.TheVariants as forms
use Rattle.ml_moves.specs.declared.awaits.Awaits.TheVariants as waits
use Rattle.ml_moves.specs.declared.moves.Change.TheVariants as changes
use Rattle.ml_moves.specs.declared.moves.Move.{Move}
use Rattle.ml_moves.specs.Moves.{goes, by, by_two}
use Rattle.ml_moves.specs.Level.{level_of, begins_pattern}

-- a token where a pattern begins
unfoldable pub begin_pattern : Role → Option Move
begin_pattern roles.Lower = by (changes.Leaf rules.PatternName) waits.After
begin_pattern roles.Underscore = by (changes.Leaf rules.PatternAny) waits.After
begin_pattern roles.Upper = by_two (changes.Leaf rules.Word) (changes.Open forms.PatternPath 1) waits.PatternConstructed
begin_pattern roles.Integer = by (changes.Leaf rules.PatternConstant) waits.After
begin_pattern roles.Character = by (changes.Leaf rules.PatternConstant) waits.After
begin_pattern roles.Text = by (changes.Leaf rules.PatternConstant) waits.After
begin_pattern roles.True = by (changes.Leaf rules.PatternConstant) waits.After
begin_pattern roles.False = by (changes.Leaf rules.PatternConstant) waits.After
begin_pattern roles.LeftParenthesis = by (changes.Open forms.PatternParenthesis 1) waits.PatternOrUnit
begin_pattern roles.LeftBracket = by (changes.Open forms.PatternList 1) waits.PatternOrEmpty
begin_pattern roles.LeftBrace = by (changes.Open forms.PatternRecord 0) waits.PatternField
begin_pattern _ = None

-- a token where the pattern of an effect begins
unfoldable pub begin_effect_pattern : Role → Option Move
begin_effect_pattern roles.LeftParenthesis = by (changes.Open forms.EffectParenthesis 1) waits.EffectPattern
begin_effect_pattern roles.Upper = by_two (changes.Leaf rules.Word) (changes.Open forms.PatternPath 1) waits.PatternConstructed
begin_effect_pattern _ = None

-- a `)` directly behind `(`
unfoldable pub close_unit_pattern : Role → Option Move
close_unit_pattern roles.RightParenthesis = by (changes.Empty rules.PatternUnit) waits.After
close_unit_pattern _ = None

-- a `]` directly behind `[`
unfoldable pub close_empty_pattern : Role → Option Move
close_empty_pattern roles.RightBracket = by (changes.Empty rules.PatternList) waits.After
close_empty_pattern _ = None

-- a token behind a constructor, in a pattern in this form: a dot is left; a pattern is its argument, where one of level 1 may stand
unfoldable pub complete_pattern_constructor : Role → Form → Option Move
complete_pattern_constructor roles.Dot outer = goes waits.PatternConstructed
complete_pattern_constructor role outer = if (begins_pattern role) && (nat_le 1 (level_of outer)) then (by_two (changes.Close rules.LongName) (changes.Open forms.PatternConstruct 1) waits.Pattern) else (by (changes.Close rules.PatternConstructor) waits.After)

-- a dot behind a constructor
unfoldable pub after_pattern_constructor : Role → Option Move
after_pattern_constructor roles.Dot = goes waits.PatternMember
after_pattern_constructor _ = None

-- a token behind a constructor and a dot
unfoldable pub take_pattern_member : Role → Option Move
take_pattern_member roles.Upper = by_two (changes.Leaf rules.Word) (changes.Count forms.PatternPath) waits.PatternConstructed
take_pattern_member _ = None

-- a token behind `as`
unfoldable pub name_alias : Role → Option Move
name_alias roles.Lower = by_two (changes.Leaf rules.Word) (changes.Close rules.PatternAlias) waits.After
name_alias _ = None

-- a token where a field's name comes
unfoldable pub name_pattern_field : Role → Option Move
name_pattern_field roles.Lower = by_two (changes.Leaf rules.Word) (changes.Count forms.PatternRecord) waits.PatternFieldEquals
name_pattern_field _ = None

-- a token where a field's name or `_` comes
unfoldable pub name_pattern_field_or_rest : Role → Option Move
name_pattern_field_or_rest roles.Underscore = goes waits.PatternRest
name_pattern_field_or_rest role = name_pattern_field role

-- a token behind a field's name
unfoldable pub equals_pattern_field : Role → Option Move
equals_pattern_field roles.Equals = goes waits.Pattern
equals_pattern_field _ = None

-- a token behind the `_` at the end of a record
unfoldable pub close_pattern_rest : Role → Option Move
close_pattern_rest roles.RightBrace = by (changes.Close rules.PatternRecordOpen) waits.After
close_pattern_rest _ = None

-- a pattern behind a parameter
unfoldable pub join_parameter : Role → Form → Option Move
join_parameter role form = if begins_pattern role then (by (changes.Count form) waits.Pattern) else (goes waits.After)

-- a further parameter; any other token is left
unfoldable pub join_pattern : Role → Form → Option Move
join_pattern role forms.FunParameters = join_parameter role forms.FunParameters
join_pattern role forms.BindingParameters = join_parameter role forms.BindingParameters
join_pattern role _ = goes waits.After

-- a form of this level and its second part, where such a form may stand
unfoldable pub open_pattern : ℕ → Form → Form → Option Move
open_pattern level form outer = if nat_le level (level_of outer) then (by (changes.Open form 2) waits.Pattern) else None

-- a comma behind a pattern
unfoldable pub pair_pattern : Form → Option Move
pair_pattern forms.PatternTuple = by (changes.Count forms.PatternTuple) waits.Pattern
pair_pattern forms.EffectClause = goes waits.Continuation
pair_pattern form = open_pattern 3 forms.PatternTuple form

-- an `as` behind a pattern
unfoldable pub alias_pattern : Form → Option Move
alias_pattern form = if nat_le 5 (level_of form) then (by (changes.Open forms.PatternAlias 1) waits.PatternAlias) else None

-- a `)` behind a pattern
unfoldable pub close_pattern : Form → Option Move
close_pattern forms.PatternParenthesis = by (changes.Close rules.PatternBracket) waits.After
close_pattern forms.EffectParenthesis = by (changes.Close rules.PatternBracket) waits.After
close_pattern _ = None

-- a semicolon behind a pattern
unfoldable pub next_pattern : Form → Option Move
next_pattern forms.PatternList = by (changes.Count forms.PatternList) waits.Pattern
next_pattern forms.PatternRecord = by (changes.Leaf rules.NamedPart) waits.PatternFieldOrRest
next_pattern _ = None

-- a `]` behind a pattern
unfoldable pub close_pattern_list : Form → Option Move
close_pattern_list forms.PatternList = by (changes.Close rules.PatternList) waits.After
close_pattern_list _ = None

-- a `}` behind a pattern
unfoldable pub close_pattern_record : Form → Option Move
close_pattern_record forms.PatternRecord = by_two (changes.Leaf rules.NamedPart) (changes.Close rules.PatternRecord) waits.After
close_pattern_record _ = None

-- a colon behind a pattern
unfoldable pub annotate_pattern : Form → Option Move
annotate_pattern forms.PatternParenthesis = by (changes.Become forms.PatternAnnotation) waits.Type
annotate_pattern forms.BindingParameters = by (changes.Become forms.BindingAnnotation) waits.Type
annotate_pattern _ = None

-- a `=` behind a pattern
unfoldable pub equals_pattern : Form → Option Move
equals_pattern forms.BindingPattern = by (changes.Become forms.PatternBody) waits.Expression
equals_pattern forms.BindingParameters = by (changes.Become forms.BindingBody) waits.Expression
equals_pattern _ = None

-- a `->` behind a pattern
unfoldable pub to_answer : Form → Option Move
to_answer forms.FunParameters = by (changes.Become forms.FunBody) waits.Expression
to_answer forms.ValueClause = by (changes.Become forms.ValueAnswer) waits.Expression
to_answer forms.ExceptionClause = by (changes.Become forms.ExceptionAnswer) waits.Expression
to_answer forms.RulePattern = goes waits.Answer
to_answer _ = None

-- a `when` behind a pattern
unfoldable pub guard_pattern : Form → Option Move
guard_pattern forms.ValueClause = by (changes.Become forms.ValueGuard) waits.Expression
guard_pattern forms.ExceptionClause = by (changes.Become forms.ExceptionGuard) waits.Expression
guard_pattern _ = None

-- a token behind a pattern, in this form
unfoldable pub after_pattern : Role → Form → Option Move
after_pattern roles.DoubleColon form = open_pattern 2 forms.PatternCons form
after_pattern roles.Comma form = pair_pattern form
after_pattern roles.Bar form = open_pattern 4 forms.PatternOr form
after_pattern roles.As form = alias_pattern form
after_pattern roles.RightParenthesis form = close_pattern form
after_pattern roles.Semicolon form = next_pattern form
after_pattern roles.RightBracket form = close_pattern_list form
after_pattern roles.RightBrace form = close_pattern_record form
after_pattern roles.Colon form = annotate_pattern form
after_pattern roles.Equals form = equals_pattern form
after_pattern roles.RightArrow form = to_answer form
after_pattern roles.When form = guard_pattern form
after_pattern _ form = None
