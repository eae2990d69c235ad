-- What an open form waits for, and which forms end before a token.
use Rattle.std.specs.Prelude.{ℕ, Bool, true, false, not, nat_le, Option, Some, None, ◌&&◌, ◌||◌, ◌==◌, if◌then◌else◌}
use Rattle.ml_syntax.specs.declared.role.Role.{Role}
use Rattle.ml_syntax.specs.declared.role.Role.TheVariants as roles
use Rattle.ml_builder.specs.declared.reduction.Rule.{Rule}
use Rattle.ml_builder.specs.declared.reduction.Rule.TheVariants as rules
use Rattle.ml_moves.specs.declared.form.Form.{Form}
use Rattle.ml_moves.specs.declared.form.Form.TheVariants as forms
use Rattle.ml_moves.specs.declared.form.Types.TheVariants as types_
use Rattle.ml_moves.specs.declared.form.Position.{Position}
use Rattle.ml_moves.specs.declared.form.Position.TheVariants as positions
use Rattle.ml_moves.specs.declared.level.Sort.{Sort}
use Rattle.ml_moves.specs.declared.level.Sort.TheVariants as sorts
use Rattle.ml_moves.specs.declared.level.Last.{Last}
use Rattle.ml_moves.specs.declared.level.Last.TheVariants as lasts
use Rattle.ml_syntax.specs.Level.{begins_argument, right_level, takes}

-- a type name that is applied to so many types
unfoldable pub applied_to : ℕ → Last
applied_to count = if count == 1 then lasts.AppliedToOne else lasts.Other

-- what a reduction of so many parts made
unfoldable pub made_by : Rule → ℕ → Last
made_by rules.Let count = lasts.Loose
made_by rules.LetRecursive count = lasts.Loose
made_by rules.Match count = lasts.Loose
made_by rules.Try count = lasts.Loose
made_by rules.Fun count = lasts.Loose
made_by rules.Function count = lasts.Loose
made_by rules.EffectFunction count = lasts.Loose
made_by rules.TypedEffectFunction count = lasts.Loose
made_by rules.FunctionCases count = lasts.Loose
made_by rules.Handle count = lasts.Handled
made_by rules.TypeApply count = applied_to count
made_by _ count = lasts.Other

-- the sort of the part that any other form waits for
unfoldable pub sort_of_others : Form → Sort
sort_of_others forms.Program = sorts.Other
sort_of_others forms.TypePath = sorts.Other
sort_of_others forms.ConstructorPath = sorts.Other
sort_of_others forms.TypeApplication = sorts.Other
sort_of_others forms.PatternPath = sorts.Other
sort_of_others forms.PatternAlias = sorts.Other
sort_of_others forms.Path = sorts.Other
sort_of_others forms.Select = sorts.Other
sort_of_others forms.MatchClauses = sorts.Other
sort_of_others forms.MatchValues = sorts.Other
sort_of_others forms.TryClauses = sorts.Other
sort_of_others forms.FunctionClauses = sorts.Other
sort_of_others (forms.Let _) = sorts.Other
sort_of_others (forms.LetRecursive _) = sorts.Other
sort_of_others forms.BindingName = sorts.Other
sort_of_others forms.RecursiveName = sorts.Other
sort_of_others forms.BindingHead = sorts.Other
sort_of_others forms.RecursiveHead = sorts.Other
sort_of_others forms.Definitions = sorts.Other
sort_of_others forms.TypeHead = sorts.Other
sort_of_others forms.Variant = sorts.Other
sort_of_others forms.RecordType = sorts.Other
sort_of_others forms.Effects = sorts.Other
sort_of_others forms.ExtendedPath = sorts.Other
sort_of_others forms.Exception = sorts.Other
sort_of_others forms.Open = sorts.Other
sort_of_others forms.EffectFunction = sorts.Other
sort_of_others forms.TypedEffectFunction = sorts.Other
sort_of_others forms.EffectParameter = sorts.Other
sort_of_others forms.EffectAnnotated = sorts.Other
sort_of_others forms.MatchRules = sorts.Other
sort_of_others forms.FunctionRules = sorts.Other
sort_of_others _ = sorts.Expression

-- the sort of the part that a form waits for
unfoldable pub sort_of : Form → Sort
sort_of (forms.TypeParenthesis types) = sorts.Type types
sort_of (forms.TypeArguments types) = sorts.Type types
sort_of (forms.TypeTuple types) = sorts.Type types
sort_of (forms.TypeArrow types) = sorts.Type types
sort_of forms.PatternAnnotation = sorts.Type types_.Any
sort_of forms.Annotation = sorts.Type types_.Any
sort_of forms.BindingAnnotation = sorts.Type types_.Any
sort_of forms.RecursiveAnnotation = sorts.Type types_.Any
sort_of forms.ConstructorArgument = sorts.Type types_.Any
sort_of forms.FieldType = sorts.Type types_.Any
sort_of forms.MutableFieldType = sorts.Type types_.Any
sort_of forms.EffectBracket = sorts.Type types_.Any
sort_of forms.ContinuationBracket = sorts.Type types_.Any
sort_of forms.PlainEffect = sorts.Type types_.Closed
sort_of forms.EffectOf = sorts.Type types_.Closed
sort_of forms.PatternParenthesis = sorts.Pattern
sort_of forms.EffectParenthesis = sorts.Pattern
sort_of forms.PatternList = sorts.Pattern
sort_of forms.PatternRecord = sorts.Pattern
sort_of forms.PatternConstruct = sorts.Pattern
sort_of forms.PatternCons = sorts.Pattern
sort_of forms.PatternTuple = sorts.Pattern
sort_of forms.PatternOr = sorts.Pattern
sort_of forms.FunParameters = sorts.Pattern
sort_of forms.ValueClause = sorts.Pattern
sort_of forms.ExceptionClause = sorts.Pattern
sort_of forms.EffectClause = sorts.Pattern
sort_of forms.BindingParameters = sorts.Pattern
sort_of forms.BindingPattern = sorts.Pattern
sort_of forms.RulePattern = sorts.Pattern
sort_of form = sort_of_others form

-- the loosest level of the part that a form waits for: of types 1 for an application, 2 for a tuple and 3 for an arrow; of patterns 1 for a constructor with its argument, 2 for `::`, 3 for a tuple, 4 for `|` and 5 for `as`; of expressions 0 to 16
unfoldable pub level_of : Form → ℕ
level_of (forms.Operating operator) = right_level operator
level_of (forms.TypeTuple _) = 1
level_of forms.PlainEffect = 1
level_of forms.EffectOf = 1
level_of forms.EffectParenthesis = 1
level_of forms.PatternConstruct = 1
level_of forms.EffectClause = 1
level_of forms.RulePattern = 1
level_of forms.Dereference = 1
level_of forms.PatternCons = 2
level_of forms.PatternTuple = 2
level_of forms.Apply = 2
level_of forms.Construct = 2
level_of (forms.HandleFirst _) = 2
level_of (forms.HandleSecond _) = 2
level_of (forms.TypeParenthesis _) = 3
level_of (forms.TypeArguments _) = 3
level_of (forms.TypeArrow _) = 3
level_of forms.PatternAnnotation = 3
level_of forms.PatternOr = 3
level_of forms.Annotation = 3
level_of forms.BindingAnnotation = 3
level_of forms.RecursiveAnnotation = 3
level_of forms.ConstructorArgument = 3
level_of forms.FieldType = 3
level_of forms.MutableFieldType = 3
level_of forms.EffectBracket = 3
level_of forms.ContinuationBracket = 3
level_of forms.Negate = 4
level_of forms.PatternParenthesis = 5
level_of forms.PatternList = 5
level_of forms.PatternRecord = 5
level_of forms.ValueClause = 5
level_of forms.ExceptionClause = 5
level_of forms.BindingPattern = 5
level_of forms.Tuple = 12
level_of forms.SetField = 14
level_of forms.SetElement = 14
level_of forms.List = 15
level_of forms.Array = 15
level_of forms.Record = 15
level_of forms.Sequence = 15
level_of forms.IfCondition = 15
level_of forms.IfThen = 15
level_of forms.IfElse = 15
level_of forms.WhileCondition = 15
level_of forms.ForFirst = 15
level_of forms.ForUpTo = 15
level_of forms.ForDownTo = 15
level_of forms.Evaluating = 15
level_of (forms.HandlerFields _) = 15
level_of forms.Parenthesis = 16
level_of forms.Begin = 16
level_of forms.Index = 16
level_of forms.Pick = 16
level_of forms.WhileBody = 16
level_of forms.ForUpward = 16
level_of forms.ForDownward = 16
level_of forms.FunBody = 16
level_of forms.MatchSubject = 16
level_of forms.TryBody = 16
level_of forms.ValueGuard = 16
level_of forms.ExceptionGuard = 16
level_of forms.ValueAnswer = 16
level_of forms.GuardedAnswer = 16
level_of forms.ExceptionAnswer = 16
level_of forms.GuardedExceptionAnswer = 16
level_of forms.EffectAnswer = 16
level_of forms.BindingBody = 16
level_of forms.AnnotatedBody = 16
level_of forms.PatternBody = 16
level_of forms.LetBody = 16
level_of forms.LetRecursiveBody = 16
level_of forms.Answer = 16
level_of _ = 0

-- the item that a `let` without an `in` is
unfoldable pub let_item : Position → Rule → Option Rule
let_item positions.Inside rule = None
let_item positions.Either rule = Some rule
let_item positions.Item rule = Some rule

-- what a part of an item, or an item, makes
unfoldable pub definition_of : Form → Option Rule
definition_of forms.Variant = Some rules.VariantType
definition_of forms.ConstructorArgument = Some rules.ConstructorOf
definition_of forms.FieldType = Some rules.FieldType
definition_of forms.MutableFieldType = Some rules.MutableFieldType
definition_of forms.PlainEffect = Some rules.PlainEffect
definition_of forms.EffectOf = Some rules.EffectOf
definition_of (forms.Let position) = let_item position rules.LetItem
definition_of (forms.LetRecursive position) = let_item position rules.LetRecursiveItem
definition_of forms.Definitions = Some rules.TypesItem
definition_of forms.Effects = Some rules.EffectsItem
definition_of forms.Exception = Some rules.ExceptionItem
definition_of forms.Open = Some rules.OpenItem
definition_of forms.Evaluating = Some rules.ExpressionItem
definition_of _ = None

-- what a form makes that ends with the part that it waits for; none where a token of its own has to come
unfoldable pub made_of : Form → Option Rule
made_of forms.TypeApplication = Some rules.TypeApply
made_of (forms.TypeTuple _) = Some rules.TypeTuple
made_of (forms.TypeArrow _) = Some rules.TypeArrow
made_of forms.PatternConstruct = Some rules.PatternConstruct
made_of forms.PatternCons = Some rules.PatternCons
made_of forms.PatternTuple = Some rules.PatternTuple
made_of forms.PatternOr = Some rules.PatternOr
made_of forms.Dereference = Some rules.Dereference
made_of forms.Negate = Some rules.Negate
made_of (forms.Operating operator) = Some (rules.Binary operator)
made_of forms.Tuple = Some rules.Tuple
made_of forms.Sequence = Some rules.Sequence
made_of forms.Apply = Some rules.Apply
made_of forms.Construct = Some rules.Construct
made_of forms.SetField = Some rules.SetField
made_of forms.SetElement = Some rules.SetElement
made_of forms.IfThen = Some rules.If
made_of forms.IfElse = Some rules.IfElse
made_of forms.FunBody = Some rules.Fun
made_of forms.MatchValues = Some rules.Match
made_of forms.TryClauses = Some rules.Try
made_of forms.FunctionClauses = Some rules.Function
made_of forms.ValueAnswer = Some rules.ValueClause
made_of forms.GuardedAnswer = Some rules.GuardedClause
made_of forms.ExceptionAnswer = Some rules.ExceptionClause
made_of forms.GuardedExceptionAnswer = Some rules.GuardedExceptionClause
made_of forms.EffectAnswer = Some rules.EffectClause
made_of forms.BindingBody = Some rules.NamedBinding
made_of forms.FunctionBody = Some rules.NamedBinding
made_of forms.AnnotatedBody = Some rules.AnnotatedBinding
made_of forms.AnnotatedFunctionBody = Some rules.AnnotatedBinding
made_of forms.PatternBody = Some rules.PatternBinding
made_of forms.LetBody = Some rules.Let
made_of forms.LetRecursiveBody = Some rules.LetRecursive
made_of forms.EffectFunction = Some rules.EffectFunction
made_of forms.TypedEffectFunction = Some rules.TypedEffectFunction
made_of form = definition_of form

-- whether an item ends before a token: before what begins the next one, and before `;;`
unfoldable pub ends_item : Role → Bool
ends_item roles.DoubleSemicolon = true
ends_item roles.Let = true
ends_item roles.Type = true
ends_item roles.Exception = true
ends_item roles.Open = true
ends_item _ = false

-- whether a pattern that may be a parameter begins with a token
unfoldable pub begins_pattern : Role → Bool
begins_pattern roles.Lower = true
begins_pattern roles.Upper = true
begins_pattern roles.Integer = true
begins_pattern roles.Character = true
begins_pattern roles.Text = true
begins_pattern roles.True = true
begins_pattern roles.False = true
begins_pattern roles.Underscore = true
begins_pattern roles.LeftParenthesis = true
begins_pattern roles.LeftBracket = true
begins_pattern roles.LeftBrace = true
begins_pattern _ = false

-- the level of the type that a token makes with the one before it, or 4
unfoldable pub joined_type : Role → ℕ
joined_type roles.Lower = 1
joined_type roles.Upper = 1
joined_type roles.Star = 2
joined_type roles.RightArrow = 3
joined_type _ = 4

-- the level of the pattern that a token makes with the one before it, or 6
unfoldable pub joined_pattern : Role → ℕ
joined_pattern roles.DoubleColon = 2
joined_pattern roles.Comma = 3
joined_pattern roles.Bar = 4
joined_pattern roles.As = 5
joined_pattern _ = 6

-- whether a part of this sort and of levels up to `most` takes a token in
unfoldable pub takes_in : Role → Sort → ℕ → Bool
takes_in role (sorts.Type _) most = nat_le (joined_type role) most
takes_in role sorts.Pattern most = nat_le (joined_pattern role) most
takes_in role sorts.Expression most = takes role most
takes_in role sorts.Other most = false

-- whether a token is `else`
unfoldable pub is_else : Role → Bool
is_else roles.Else = true
is_else _ = false

-- whether a token is `|`
unfoldable pub is_bar : Role → Bool
is_bar roles.Bar = true
is_bar _ = false

-- whether a token is `,`
unfoldable pub is_comma : Role → Bool
is_comma roles.Comma = true
is_comma _ = false

-- whether a token is `*`
unfoldable pub is_star : Role → Bool
is_star roles.Star = true
is_star _ = false

-- whether a token is `;`
unfoldable pub is_semicolon : Role → Bool
is_semicolon roles.Semicolon = true
is_semicolon _ = false

-- whether a further part of a form, or its next token, begins with a token
unfoldable pub goes_on_with : Role → Form → Bool
goes_on_with role (forms.TypeTuple _) = is_star role
goes_on_with role forms.PatternTuple = is_comma role
goes_on_with role forms.Tuple = is_comma role
goes_on_with role forms.Sequence = is_semicolon role
goes_on_with role forms.Apply = begins_argument role
goes_on_with role forms.IfThen = is_else role
goes_on_with role forms.MatchValues = is_bar role
goes_on_with role forms.TryClauses = is_bar role
goes_on_with role forms.FunctionClauses = is_bar role
goes_on_with role forms.Variant = is_bar role
goes_on_with role _ = false

-- whether the last reduction made a type name that is applied to a single type
unfoldable pub is_applied_to_one : Last → Bool
is_applied_to_one lasts.AppliedToOne = true
is_applied_to_one _ = false

-- whether a form ends before a token
unfoldable pub ends_before : Role → Form → Last → Bool
ends_before role (forms.Let _) last = ends_item role
ends_before role (forms.LetRecursive _) last = ends_item role
ends_before role forms.Definitions last = ends_item role
ends_before role forms.Effects last = ends_item role
ends_before role forms.Exception last = ends_item role
ends_before role forms.Open last = ends_item role
ends_before role forms.Evaluating last = ends_item role
ends_before role forms.PlainEffect last = (is_applied_to_one last) && ((is_bar role) || (ends_item role))
ends_before role forms.EffectOf last = (is_applied_to_one last) && ((is_bar role) || (ends_item role))
ends_before role form last = not ((goes_on_with role form) || (takes_in role (sort_of form) (level_of form)))

-- what a form makes that ends before a token; none where it doesn't end
unfoldable pub made_before : Role → Form → Last → Option Rule
made_before role form last = if ends_before role form last then (made_of form) else None
