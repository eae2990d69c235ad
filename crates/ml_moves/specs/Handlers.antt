-- What a token does in a handler.
use Rattle.std.specs.Prelude.{false, Option, None, if◌then◌else◌}
use Rattle.ml_syntax.specs.declared.role.Role.{Role}
use Rattle.ml_syntax.specs.declared.role.Role.TheVariants as roles
use Rattle.ml_builder.specs.declared.reduction.Rule.TheVariants as rules
use Rattle.ml_moves.specs.declared.form.Form.{Form}
use Rattle.ml_moves.specs.declared.form.Form.TheVariants as forms
use Rattle.ml_moves.specs.declared.form.Missing.{Missing}
use Rattle.ml_moves.specs.declared.awaits.Awaits.{Awaits}
use Rattle.ml_moves.specs.declared.awaits.Awaits.TheVariants as waits
use Rattle.ml_moves.specs.declared.moves.Change.TheVariants as changes
use Rattle.ml_moves.specs.declared.moves.Move.{Move}
use Rattle.ml_moves.specs.declared.handlers.Sign.{Sign}
use Rattle.ml_moves.specs.declared.handlers.Sign.TheVariants as signs
use Rattle.ml_moves.specs.Moves.{goes, by, by_two}

-- the field of a handler whose name comes, which then isn't missing
unfoldable pub open_named_field : Missing → Awaits → Option Move
open_named_field missing next = by_two (changes.Leaf rules.Word) (changes.Count (forms.HandlerFields missing)) next

-- the name `retc`
unfoldable pub name_retc : Missing → Option Move
name_retc missing = if missing.retc then (open_named_field record { retc = false; exnc = missing.exnc; effc = missing.effc } waits.HandlerEquals) else None

-- the name `exnc`
unfoldable pub name_exnc : Missing → Option Move
name_exnc missing = if missing.exnc then (open_named_field record { retc = missing.retc; exnc = false; effc = missing.effc } waits.HandlerEquals) else None

-- the name `effc`
unfoldable pub name_effc : Missing → Option Move
name_effc missing = if missing.effc then (open_named_field record { retc = missing.retc; exnc = missing.exnc; effc = false } waits.EffectsEquals) else None

-- the name of a field, one of those that are missing
unfoldable pub name_missing : Sign → Missing → Option Move
name_missing signs.Retc missing = name_retc missing
name_missing signs.Exnc missing = name_exnc missing
name_missing signs.Effc missing = name_effc missing
name_missing _ missing = None

-- a token where the name of a field comes, in this form
unfoldable pub name_handler_field : Sign → Form → Option Move
name_handler_field sign (forms.HandlerFields missing) = name_missing sign missing
name_handler_field sign _ = None

-- a token behind `retc` or `exnc`, or behind `effc`
unfoldable pub equals_handler : Role → Awaits → Option Move
equals_handler roles.Equals next = goes next
equals_handler _ next = None

-- a token where the value of `effc` begins
unfoldable pub begin_effects : Role → Option Move
begin_effects roles.Fun = by (changes.Open forms.EffectFunction 1) waits.EffectParameter
begin_effects roles.Function = by (changes.Open forms.FunctionRules 0) waits.FirstRule
begin_effects _ = None

-- the parameter of `effc`
unfoldable pub name_parameter : Option Move
name_parameter = by_two (changes.Leaf rules.PatternName) (changes.Open forms.EffectParameter 0) waits.ParameterArrow

-- a token where the parameter of `effc` comes; behind a bracket this comes next
unfoldable pub take_parameter : Role → Awaits → Option Move
take_parameter roles.Lower bracketed = name_parameter
take_parameter roles.LeftParenthesis bracketed = by (changes.Open forms.EffectBracket 0) bracketed
take_parameter _ bracketed = None

-- a token where the parameter of `effc` comes in brackets
unfoldable pub take_bracketed : Role → Option Move
take_bracketed roles.Lower = by (changes.Leaf rules.PatternName) waits.ParameterColon
take_bracketed _ = None

-- a token in the first brackets behind the `fun` of `effc`
unfoldable pub take_opened : Role → Option Move
take_opened roles.Type = by_two changes.Withdraw (changes.Become forms.TypedEffectFunction) waits.EffectType
take_opened role = take_bracketed role

-- a token behind `(type`
unfoldable pub name_effect_type : Role → Option Move
name_effect_type roles.Lower = by (changes.Leaf rules.Word) waits.EffectTypeEnd
name_effect_type _ = None

-- a token behind `(type a`
unfoldable pub close_effect_type : Role → Option Move
close_effect_type roles.RightParenthesis = goes waits.TypedParameter
close_effect_type _ = None

-- a token behind a name in brackets, where its type comes next
unfoldable pub annotate_parameter : Role → Option Move
annotate_parameter roles.Colon = goes waits.Type
annotate_parameter _ = None

-- a token behind the parameter of `effc`
unfoldable pub after_parameter : Role → Option Move
after_parameter roles.RightArrow = goes waits.EffectMatch
after_parameter _ = None

-- a token where the `match` of `effc` comes
unfoldable pub begin_match : Role → Option Move
begin_match roles.Match = goes waits.Subject
begin_match _ = None

-- a token where the subject of that `match` comes: the parameter
unfoldable pub take_subject : Sign → Option Move
take_subject signs.Parameter = by_two (changes.Leaf rules.Word) (changes.RestartBefore forms.MatchRules) waits.SubjectWith
take_subject _ = None

-- a token behind that subject
unfoldable pub open_rules : Role → Option Move
open_rules roles.With = goes waits.FirstRule
open_rules _ = None

-- a token where a rule begins, among these: `_` is left, and any other token begins a pattern
unfoldable pub complete_rule : Role → Form → Option Move
complete_rule roles.Underscore form = goes waits.Rule
complete_rule _ form = by_two (changes.Count form) (changes.Open forms.RulePattern 1) waits.EffectPattern

-- a token where the first rule begins: a bar is left
unfoldable pub complete_first_rule : Role → Form → Option Move
complete_first_rule roles.Bar form = goes waits.FirstRule
complete_first_rule role form = complete_rule role form

-- a bar before the first rule
unfoldable pub take_first_rule_bar : Role → Option Move
take_first_rule_bar roles.Bar = goes waits.Rule
take_first_rule_bar _ = None

-- the `_` of the last rule
unfoldable pub begin_last_rule : Role → Option Move
begin_last_rule roles.Underscore = by (changes.Leaf rules.PatternAny) waits.LastArrow
begin_last_rule _ = None

-- a token behind the pattern of a rule and its arrow
unfoldable pub begin_answer : Sign → Option Move
begin_answer signs.Some = by (changes.Restart forms.Answer) waits.AnswerBracket
begin_answer _ = None

-- a token behind `Some`
unfoldable pub open_answer : Role → Option Move
open_answer roles.LeftParenthesis = goes waits.AnswerFun
open_answer _ = None

-- a token behind that bracket
unfoldable pub begin_resumption : Role → Option Move
begin_resumption roles.Fun = goes waits.Resumed
begin_resumption _ = None

-- the continuation of a rule, behind which this comes
unfoldable pub name_resumed_as : Role → Awaits → Option Move
name_resumed_as roles.Lower next = by (changes.Leaf rules.PatternName) next
name_resumed_as roles.Underscore next = by (changes.Leaf rules.PatternAny) next
name_resumed_as _ next = None

-- a token where the continuation of a rule comes, or a bracket before it
unfoldable pub take_resumed : Role → Option Move
take_resumed roles.LeftParenthesis = by (changes.Open forms.ContinuationBracket 0) waits.ResumedOpened
take_resumed role = name_resumed_as role waits.ResumedArrow

-- a token where the continuation of a rule comes in brackets
unfoldable pub take_bracketed_resumed : Role → Option Move
take_bracketed_resumed role = name_resumed_as role waits.ResumedColon

-- a token behind the continuation of a rule
unfoldable pub open_resumption : Role → Option Move
open_resumption roles.RightArrow = goes waits.Expression
open_resumption _ = None

-- a token behind a rule
unfoldable pub next_rule : Role → Option Move
next_rule roles.Bar = goes waits.Rule
next_rule _ = None

-- a token behind the last rule's `_`
unfoldable pub after_last : Role → Option Move
after_last roles.RightArrow = goes waits.LastAnswer
after_last _ = None

-- the end of these rules
unfoldable pub close_rules : Form → Option Move
close_rules forms.MatchRules = by (changes.Close rules.MatchCases) waits.After
close_rules forms.FunctionRules = by (changes.Close rules.FunctionCases) waits.After
close_rules _ = None

-- a token behind `_ ->`, among these rules
unfoldable pub end_rules : Sign → Form → Option Move
end_rules signs.None form = close_rules form
end_rules _ form = None
