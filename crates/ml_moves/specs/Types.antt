-- What a token does in a type.
use Rattle.std.specs.Prelude.{nat_le, Option, None, if◌then◌else◌}
use Rattle.ml_syntax.specs.declared.role.Role.{Role}
use Rattle.ml_syntax.specs.declared.role.Role.TheVariants as roles
use Rattle.ml_builder.specs.declared.reduction.Rule.{Rule}
use Rattle.ml_builder.specs.declared.reduction.Rule.TheVariants as rules
use Rattle.ml_moves.specs.declared.form.Form.{Form}
use Rattle.ml_moves.specs.declared.form.Form.TheVariants as forms
use Rattle.ml_moves.specs.declared.form.Types.{Types}
use Rattle.ml_moves.specs.declared.form.Types.TheVariants as types_
use Rattle.ml_moves.specs.declared.awaits.Awaits.TheVariants as waits
use Rattle.ml_moves.specs.declared.moves.Change.TheVariants as changes
use Rattle.ml_moves.specs.declared.moves.Move.{Move}
use Rattle.ml_moves.specs.declared.level.Sort.{Sort}
use Rattle.ml_moves.specs.declared.level.Sort.TheVariants as sorts
use Rattle.ml_moves.specs.Moves.{goes, by, by_two, by_three}
use Rattle.ml_moves.specs.Level.{level_of}

-- a type variable or `_`, which stand among any types alone
unfoldable pub begin_open_type : Rule → Types → Option Move
begin_open_type rule types_.Any = by (changes.Leaf rule) waits.After
begin_open_type rule types_.Closed = None

-- a token where one of these types begins
unfoldable pub begin_one_of : Role → Types → Option Move
begin_one_of roles.TypeVariable types = begin_open_type rules.TypeVariable types
begin_one_of roles.Underscore types = begin_open_type rules.TypeAny types
begin_one_of roles.LeftParenthesis types = by (changes.Open (forms.TypeParenthesis types) 1) waits.Type
begin_one_of roles.Lower types = by (changes.Name rules.TypeName) waits.After
begin_one_of roles.Upper types = by_two (changes.Leaf rules.Word) (changes.Open forms.TypePath 1) waits.TypeDot
begin_one_of _ types = None

-- a token where a type begins, in a form that waits for a part of this sort
unfoldable pub begin_type : Role → Sort → Option Move
begin_type role (sorts.Type types) = begin_one_of role types
begin_type role _ = None

-- a token behind an upper name in a type
unfoldable pub after_type_word : Role → Option Move
after_type_word roles.Dot = goes waits.TypeMember
after_type_word _ = None

-- the last word of a type name, or of a type constructor's
unfoldable pub end_type_path : Form → Option Move
end_type_path forms.TypePath = by_three (changes.Leaf rules.Word) (changes.Count forms.TypePath) (changes.Close rules.TypeName) waits.After
end_type_path forms.ConstructorPath = by_three (changes.Leaf rules.Word) (changes.Count forms.ConstructorPath) (changes.Close rules.LongName) waits.After
end_type_path _ = None

-- a token behind an upper name and a dot in a type
unfoldable pub take_type_member : Role → Form → Option Move
take_type_member roles.Upper form = by_two (changes.Leaf rules.Word) (changes.Count form) waits.TypeDot
take_type_member roles.Lower form = end_type_path form
take_type_member _ form = None

-- a token behind the arguments of a type constructor
unfoldable pub name_type_constructor : Role → Option Move
name_type_constructor roles.Lower = by (changes.Name rules.LongName) waits.After
name_type_constructor roles.Upper = by_two (changes.Leaf rules.Word) (changes.Open forms.ConstructorPath 1) waits.TypeDot
name_type_constructor _ = None

-- a name behind a type, which is its argument; any other token is left
unfoldable pub join_type : Role → Option Move
join_type roles.Lower = by (changes.Open forms.TypeApplication 1) waits.TypeConstructor
join_type roles.Upper = by (changes.Open forms.TypeApplication 1) waits.TypeConstructor
join_type _ = goes waits.After

-- a `*` behind a type
unfoldable pub multiply_type : Form → Types → Option Move
multiply_type (forms.TypeTuple own) types = by (changes.Count (forms.TypeTuple own)) waits.Type
multiply_type form types = if nat_le 2 (level_of form) then (by (changes.Open (forms.TypeTuple types) 2) waits.Type) else None

-- a `->` behind a type
unfoldable pub to_type : Form → Types → Option Move
to_type forms.PlainEffect types = by (changes.Become forms.EffectOf) waits.Type
to_type form types = if nat_le 3 (level_of form) then (by (changes.Open (forms.TypeArrow types) 2) waits.Type) else None

-- a `)` behind a type
unfoldable pub close_type : Form → Option Move
close_type (forms.TypeParenthesis _) = by (changes.Close rules.TypeBracket) waits.After
close_type (forms.TypeArguments _) = by (changes.Become forms.TypeApplication) waits.TypeConstructor
close_type forms.PatternAnnotation = by (changes.Close rules.PatternAnnotated) waits.After
close_type forms.Annotation = by (changes.Close rules.Annotated) waits.After
close_type forms.EffectBracket = by (changes.Turn rules.PatternAnnotated forms.EffectAnnotated) waits.ParameterArrow
close_type forms.ContinuationBracket = by (changes.Close rules.PatternAnnotated) waits.ResumedArrow
close_type _ = None

-- a comma behind a type
unfoldable pub next_type : Form → Option Move
next_type (forms.TypeParenthesis types) = by (changes.Count (forms.TypeArguments types)) waits.Type
next_type (forms.TypeArguments own) = by (changes.Count (forms.TypeArguments own)) waits.Type
next_type _ = None

-- a `=` behind a type
unfoldable pub equals_type : Form → Option Move
equals_type forms.BindingAnnotation = by (changes.Become forms.AnnotatedBody) waits.Expression
equals_type forms.RecursiveAnnotation = by (changes.Become forms.AnnotatedFunctionBody) waits.Literal
equals_type _ = None

-- a token behind one of these types, in this form
unfoldable pub after_type : Role → Form → Types → Option Move
after_type roles.Star form types = multiply_type form types
after_type roles.RightArrow form types = to_type form types
after_type roles.RightParenthesis form types = close_type form
after_type roles.Comma form types = next_type form
after_type roles.Equals form types = equals_type form
after_type _ form types = None
