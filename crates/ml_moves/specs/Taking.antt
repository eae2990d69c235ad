-- What a token does that is taken.
use Rattle.std.specs.Prelude.{Option, None}
use Rattle.ml_syntax.specs.declared.role.Role.{Role}
use Rattle.ml_moves.specs.declared.form.Form.{Form}
use Rattle.ml_moves.specs.declared.form.Form.TheVariants as forms
use Rattle.ml_moves.specs.declared.form.Position.TheVariants as positions
use Rattle.ml_moves.specs.declared.awaits.Awaits.{Awaits}
use Rattle.ml_moves.specs.declared.awaits.Awaits.TheVariants as waits
use Rattle.ml_moves.specs.declared.moves.Move.{Move}
use Rattle.ml_moves.specs.declared.level.Sort.{Sort}
use Rattle.ml_moves.specs.declared.level.Sort.TheVariants as sorts
use Rattle.ml_moves.specs.declared.level.Last.{Last}
use Rattle.ml_moves.specs.declared.handlers.Sign.{Sign}
use Rattle.ml_moves.specs.Level.{sort_of}
use Rattle.ml_moves.specs.Types.{begin_type, after_type_word, take_type_member, name_type_constructor, after_type}
use Rattle.ml_moves.specs.Patterns.{begin_pattern, begin_effect_pattern, close_unit_pattern, close_empty_pattern, after_pattern_constructor, take_pattern_member, name_alias, name_pattern_field, name_pattern_field_or_rest, equals_pattern_field, close_pattern_rest, after_pattern}
use Rattle.ml_moves.specs.Expressions.{begin, begin_literal, close_unit, close_empty, after_constructor, take_member, select, set_field, set_element, name_field, name_counter, equals_expression}
use Rattle.ml_moves.specs.Endings.{after_expression}
use Rattle.ml_moves.specs.Clauses.{take_first_bar, begin_clause, name_continuation, open_effect_answer, next_clause}
use Rattle.ml_moves.specs.Bindings.{begin_binding, begin_first_binding, take_head, after_bindings}
use Rattle.ml_moves.specs.Definitions.{begin_effect_item, begin_type_head, take_type_parameter, after_type_parameter, name_definition, equals_definition, begin_body, name_constructor, open_argument, close_record_type, begin_field_type, name_field_type, open_field_type, begin_extended, after_extended_word, take_extended_member, extend, take_first_effect_bar, name_effect, open_effect, name_exception, name_opened, after_opened_word, after_definition}
use Rattle.ml_moves.specs.Handlers.{name_handler_field, equals_handler, begin_effects, take_parameter, take_bracketed, take_opened, name_effect_type, close_effect_type, annotate_parameter, after_parameter, begin_match, take_subject, open_rules, take_first_rule_bar, begin_last_rule, begin_answer, open_answer, begin_resumption, take_resumed, take_bracketed_resumed, open_resumption, next_rule, after_last, end_rules}
use Rattle.ml_moves.specs.Items.{begin_item}

-- a token behind a whole part that is no type, pattern or expression
unfoldable pub after_other : Role → Form → Option Move
after_other role forms.MatchClauses = next_clause role forms.MatchClauses
after_other role forms.MatchValues = next_clause role forms.MatchValues
after_other role forms.TryClauses = next_clause role forms.TryClauses
after_other role forms.FunctionClauses = next_clause role forms.FunctionClauses
after_other role (forms.Let own) = after_bindings role (forms.Let own)
after_other role (forms.LetRecursive own) = after_bindings role (forms.LetRecursive own)
after_other role form = after_definition role form

-- a token behind a whole part of this sort, in this form
unfoldable pub after : Sort → Role → Form → Last → Option Move
after (sorts.Type types) role form last = after_type role form types
after sorts.Pattern role form last = after_pattern role form
after sorts.Expression role form last = after_expression role form last
after sorts.Other role form last = after_other role form

-- the same in a handler
unfoldable pub take_in_handler : Awaits → Role → Sign → Form → Option Move
take_in_handler waits.HandlerField role sign form = name_handler_field sign form
take_in_handler waits.HandlerEquals role sign form = equals_handler role waits.Expression
take_in_handler waits.EffectsEquals role sign form = equals_handler role waits.Effects
take_in_handler waits.Effects role sign form = begin_effects role
take_in_handler waits.EffectParameter role sign form = take_parameter role waits.EffectOpened
take_in_handler waits.EffectOpened role sign form = take_opened role
take_in_handler waits.EffectType role sign form = name_effect_type role
take_in_handler waits.EffectTypeEnd role sign form = close_effect_type role
take_in_handler waits.TypedParameter role sign form = take_parameter role waits.TypedOpened
take_in_handler waits.TypedOpened role sign form = take_bracketed role
take_in_handler waits.ParameterColon role sign form = annotate_parameter role
take_in_handler waits.ParameterArrow role sign form = after_parameter role
take_in_handler waits.EffectMatch role sign form = begin_match role
take_in_handler waits.Subject role sign form = take_subject sign
take_in_handler waits.SubjectWith role sign form = open_rules role
take_in_handler waits.FirstRule role sign form = take_first_rule_bar role
take_in_handler waits.Rule role sign form = begin_last_rule role
take_in_handler waits.Answer role sign form = begin_answer sign
take_in_handler waits.AnswerBracket role sign form = open_answer role
take_in_handler waits.AnswerFun role sign form = begin_resumption role
take_in_handler waits.Resumed role sign form = take_resumed role
take_in_handler waits.ResumedOpened role sign form = take_bracketed_resumed role
take_in_handler waits.ResumedColon role sign form = annotate_parameter role
take_in_handler waits.ResumedArrow role sign form = open_resumption role
take_in_handler waits.RuleBar role sign form = next_rule role
take_in_handler waits.LastArrow role sign form = after_last role
take_in_handler waits.LastAnswer role sign form = end_rules sign form
take_in_handler _ role sign form = None

-- the same in an item
unfoldable pub take_in_item : Awaits → Role → Sign → Form → Option Move
take_in_item waits.FirstItem role sign form = begin_item role positions.Either
take_in_item waits.NextItem role sign form = begin_item role positions.Item
take_in_item waits.Definitions role sign form = begin_effect_item role
take_in_item waits.DefinitionHead role sign form = begin_type_head role
take_in_item waits.Parameter role sign form = take_type_parameter role
take_in_item waits.ParameterEnd role sign form = after_type_parameter role
take_in_item waits.DefinitionName role sign form = name_definition role
take_in_item waits.DefinitionEquals role sign form = equals_definition role
take_in_item waits.DefinitionBody role sign form = begin_body role
take_in_item waits.Constructor role sign form = name_constructor role
take_in_item waits.ConstructorEnd role sign form = open_argument role
take_in_item waits.FieldType role sign form = begin_field_type role
take_in_item waits.FieldTypeOrEnd role sign form = close_record_type role
take_in_item waits.FieldTypeName role sign form = name_field_type role
take_in_item waits.FieldTypeColon role sign form = open_field_type role
take_in_item waits.Extended role sign form = begin_extended role
take_in_item waits.ExtendedDot role sign form = after_extended_word role
take_in_item waits.ExtendedMember role sign form = take_extended_member role
take_in_item waits.ExtendedPlus role sign form = extend role
take_in_item waits.FirstEffect role sign form = take_first_effect_bar role
take_in_item waits.Effect role sign form = name_effect role
take_in_item waits.EffectColon role sign form = open_effect role
take_in_item waits.Exception role sign form = name_exception role
take_in_item waits.Open role sign form = name_opened role
take_in_item waits.OpenEnd role sign form = after_opened_word role
take_in_item awaits role sign form = take_in_handler awaits role sign form

-- the same in an expression
unfoldable pub take_in_expression : Awaits → Role → Sign → Form → Form → Option Move
take_in_expression waits.Expression role sign form outer = begin role form
take_in_expression waits.Literal role sign form outer = begin_literal role
take_in_expression waits.ExpressionOrUnit role sign form outer = close_unit role
take_in_expression waits.ExpressionOrEmpty role sign form outer = close_empty role form
take_in_expression waits.Constructed role sign form outer = after_constructor role
take_in_expression waits.Member role sign form outer = take_member role outer
take_in_expression waits.Selecting role sign form outer = select role
take_in_expression waits.Selected role sign form outer = set_field role outer
take_in_expression waits.Indexed role sign form outer = set_element role outer
take_in_expression waits.Field role sign form outer = name_field role
take_in_expression waits.FieldEquals role sign form outer = equals_expression role
take_in_expression waits.Counter role sign form outer = name_counter role
take_in_expression waits.CounterEquals role sign form outer = equals_expression role
take_in_expression waits.FirstClause role sign form outer = take_first_bar role
take_in_expression waits.Clause role sign form outer = begin_clause role
take_in_expression waits.Continuation role sign form outer = name_continuation role
take_in_expression waits.ContinuationArrow role sign form outer = open_effect_answer role
take_in_expression waits.FirstBinding role sign form outer = begin_first_binding role form
take_in_expression waits.Binding role sign form outer = begin_binding role form
take_in_expression waits.BindingHead role sign form outer = take_head role form
take_in_expression awaits role sign form outer = take_in_item awaits role sign form

-- a token where this is awaited, with the innermost form, the one round it, what was made last, and what the token is to a handler
unfoldable pub take : Awaits → Role → Sign → Form → Form → Last → Option Move
take waits.After role sign form outer last = after (sort_of form) role form last
take waits.Type role sign form outer last = begin_type role (sort_of form)
take waits.TypeDot role sign form outer last = after_type_word role
take waits.TypeMember role sign form outer last = take_type_member role form
take waits.TypeConstructor role sign form outer last = name_type_constructor role
take waits.Pattern role sign form outer last = begin_pattern role
take waits.PatternOrUnit role sign form outer last = close_unit_pattern role
take waits.PatternOrEmpty role sign form outer last = close_empty_pattern role
take waits.PatternConstructed role sign form outer last = after_pattern_constructor role
take waits.PatternMember role sign form outer last = take_pattern_member role
take waits.PatternAlias role sign form outer last = name_alias role
take waits.PatternField role sign form outer last = name_pattern_field role
take waits.PatternFieldOrRest role sign form outer last = name_pattern_field_or_rest role
take waits.PatternFieldEquals role sign form outer last = equals_pattern_field role
take waits.PatternRest role sign form outer last = close_pattern_rest role
take waits.EffectPattern role sign form outer last = begin_effect_pattern role
take awaits role sign form outer last = take_in_expression awaits role sign form outer
