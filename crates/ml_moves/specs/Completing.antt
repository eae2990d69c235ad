-- What a token shows of what stands before it: that a name is whole, say, or what a part begins. The token is looked at, and not yet taken.
use Rattle.std.specs.Prelude.{ℕ, Option, if◌then◌else◌}
use Rattle.ml_syntax.specs.declared.role.Role.{Role}
use Rattle.ml_syntax.specs.declared.role.Role.TheVariants as roles
use Rattle.ml_moves.specs.declared.form.Form.{Form}
use Rattle.ml_moves.specs.declared.form.Form.TheVariants as forms
use Rattle.ml_moves.specs.declared.awaits.Awaits.{Awaits}
use Rattle.ml_moves.specs.declared.awaits.Awaits.TheVariants as waits
use Rattle.ml_moves.specs.declared.moves.Change.TheVariants as changes
use Rattle.ml_moves.specs.declared.moves.Move.{Move}
use Rattle.ml_moves.specs.declared.level.Sort.{Sort}
use Rattle.ml_moves.specs.declared.level.Sort.TheVariants as sorts
use Rattle.ml_moves.specs.declared.level.Last.{Last}
use Rattle.ml_moves.specs.Moves.{goes, by}
use Rattle.ml_moves.specs.Level.{sort_of, made_of, begins_pattern}
use Rattle.ml_moves.specs.Types.{join_type}
use Rattle.ml_moves.specs.Patterns.{complete_pattern_constructor, join_pattern}
use Rattle.ml_moves.specs.Expressions.{complete_constructor, complete_member, complete_selected, complete_indexed, complete_sequence}
use Rattle.ml_moves.specs.Endings.{join_expression}
use Rattle.ml_moves.specs.Clauses.{complete_clause, complete_first_clause}
use Rattle.ml_moves.specs.Bindings.{complete_binding, complete_first_binding, complete_name}
use Rattle.ml_moves.specs.Definitions.{complete_definition, complete_definitions, complete_body, complete_constructor_name, complete_field_type, complete_first_effect, complete_opened}
use Rattle.ml_moves.specs.Handlers.{complete_rule, complete_first_rule}
use Rattle.ml_moves.specs.Items.{complete_first_item}

-- a `)` is left, and any other token begins a part
unfoldable pub unless_parenthesis : Role → Awaits → Awaits → Option Move
unless_parenthesis roles.RightParenthesis kept other = goes kept
unless_parenthesis _ kept other = goes other

-- a closing bracket is left, and any other token begins a part
unfoldable pub unless_bracket : Role → Awaits → Awaits → Option Move
unless_bracket roles.RightBracket kept other = goes kept
unless_bracket roles.RightArrayBracket kept other = goes kept
unless_bracket _ kept other = goes other

-- a token behind a name and its colon, or the like: a parameter begins with it, or it is left
unfoldable pub complete_head : Role → Option Move
complete_head role = if begins_pattern role then (by (changes.Count forms.BindingParameters) waits.Pattern) else (goes waits.BindingHead)

-- the same among items
unfoldable pub complete_item : Awaits → Role → Option Move
complete_item waits.FirstItem role = complete_first_item role
complete_item waits.Definitions role = complete_definitions role
complete_item waits.Definition role = complete_definition
complete_item waits.DefinitionBody role = complete_body role
complete_item waits.ConstructorEnd role = complete_constructor_name role
complete_item waits.FieldTypeOrEnd role = complete_field_type role
complete_item waits.FirstEffect role = complete_first_effect role
complete_item waits.OpenEnd role = complete_opened role
complete_item awaits role = goes awaits

-- a token where this is awaited, with the innermost form, the one round it, and how many parts of the innermost one have begun
unfoldable pub complete : Awaits → Role → Form → Form → ℕ → Option Move
complete waits.PatternOrUnit role form outer parts = unless_parenthesis role waits.PatternOrUnit waits.Pattern
complete waits.PatternOrEmpty role form outer parts = unless_bracket role waits.PatternOrEmpty waits.Pattern
complete waits.PatternConstructed role form outer parts = complete_pattern_constructor role outer
complete waits.ExpressionOrUnit role form outer parts = unless_parenthesis role waits.ExpressionOrUnit waits.Expression
complete waits.ExpressionOrEmpty role form outer parts = unless_bracket role waits.ExpressionOrEmpty waits.Expression
complete waits.Constructed role form outer parts = complete_constructor role outer
complete waits.Member role form outer parts = complete_member role
complete waits.Selected role form outer parts = complete_selected role
complete waits.Indexed role form outer parts = complete_indexed role
complete waits.Sequel role form outer parts = complete_sequence role parts (made_of outer)
complete waits.FirstClause role form outer parts = complete_first_clause role form
complete waits.Clause role form outer parts = complete_clause role form
complete waits.FirstBinding role form outer parts = complete_first_binding role form
complete waits.Binding role form outer parts = complete_binding role form
complete waits.Named role form outer parts = complete_name role form
complete waits.BindingHead role form outer parts = complete_head role
complete waits.FirstRule role form outer parts = complete_first_rule role form
complete waits.Rule role form outer parts = complete_rule role form
complete awaits role form outer parts = complete_item awaits role

-- a token behind a whole part of this sort, once all forms before it have ended
unfoldable pub join_sort : Sort → Role → Form → Last → Option Move
join_sort (sorts.Type _) role form last = join_type role
join_sort sorts.Pattern role form last = join_pattern role form
join_sort sorts.Expression role form last = join_expression role form last
join_sort sorts.Other role form last = goes waits.After

-- a token behind a whole part of this form, once all forms before it have ended: a further part begins with it, or it is left. Where no form is open, the next item begins
unfoldable pub join : Role → Form → Last → Option Move
join role forms.Program last = goes waits.NextItem
join role form last = join_sort (sort_of form) role form last

-- the dot behind a constructor that is no path, once all forms before it have ended
unfoldable pub join_dot : Option Move
join_dot = by (changes.OpenBefore forms.Select) waits.Selecting
