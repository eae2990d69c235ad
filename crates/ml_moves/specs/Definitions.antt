-- What a token does in the definitions of types, effects and exceptions.
use Rattle.std.specs.Prelude.{Option, None}
use Rattle.ml_syntax.specs.declared.role.Role.{Role}
use Rattle.ml_syntax.specs.declared.role.Role.TheVariants as roles
use Rattle.ml_builder.specs.declared.reduction.Rule.TheVariants as rules
use Rattle.ml_moves.specs.declared.form.Form.{Form}
use Rattle.ml_moves.specs.declared.form.Form.TheVariants as forms
use Rattle.ml_moves.specs.declared.awaits.Awaits.{Awaits}
use Rattle.ml_moves.specs.declared.awaits.Awaits.TheVariants as waits
use Rattle.ml_moves.specs.declared.moves.Change.TheVariants as changes
use Rattle.ml_moves.specs.declared.moves.Move.{Move}
use Rattle.ml_moves.specs.Moves.{goes, by, by_two, by_three}

-- a token where a type definition begins
unfoldable pub complete_definition : Option Move
complete_definition = by_two (changes.Count forms.Definitions) (changes.Open forms.TypeHead 1) waits.DefinitionHead

-- a token behind `type`: `_` is left
unfoldable pub complete_definitions : Role → Option Move
complete_definitions roles.Underscore = goes waits.Definitions
complete_definitions _ = complete_definition

-- a `_` behind `type`
unfoldable pub begin_effect_item : Role → Option Move
begin_effect_item roles.Underscore = by (changes.Become forms.Effects) waits.Extended
begin_effect_item _ = None

-- a token where the name of a defined type comes
unfoldable pub name_definition : Role → Option Move
name_definition roles.Lower = by_two (changes.Leaf rules.Word) (changes.Close rules.TypeHead) waits.DefinitionEquals
name_definition _ = None

-- a token where the parameters or the name of a defined type come
unfoldable pub begin_type_head : Role → Option Move
begin_type_head roles.TypeVariable = by_two (changes.Leaf rules.Word) (changes.Count forms.TypeHead) waits.DefinitionName
begin_type_head roles.LeftParenthesis = goes waits.Parameter
begin_type_head role = name_definition role

-- a token where a type parameter comes in brackets
unfoldable pub take_type_parameter : Role → Option Move
take_type_parameter roles.TypeVariable = by_two (changes.Leaf rules.Word) (changes.Count forms.TypeHead) waits.ParameterEnd
take_type_parameter _ = None

-- a token behind a type parameter in brackets
unfoldable pub after_type_parameter : Role → Option Move
after_type_parameter roles.Comma = goes waits.Parameter
after_type_parameter roles.RightParenthesis = goes waits.DefinitionName
after_type_parameter _ = None

-- a token behind the name of a defined type
unfoldable pub equals_definition : Role → Option Move
equals_definition roles.Equals = goes waits.DefinitionBody
equals_definition _ = None

-- a token where what a type is defined as begins: `{` and `|` are left
unfoldable pub complete_body : Role → Option Move
complete_body roles.LeftBrace = goes waits.DefinitionBody
complete_body roles.Bar = goes waits.DefinitionBody
complete_body _ = by (changes.Open forms.Variant 0) waits.Constructor

-- a `{` or `|` behind the `=` of a definition
unfoldable pub begin_body : Role → Option Move
begin_body roles.LeftBrace = by (changes.Open forms.RecordType 0) waits.FieldType
begin_body roles.Bar = by (changes.Open forms.Variant 0) waits.Constructor
begin_body _ = None

-- a token where a constructor's name comes
unfoldable pub name_constructor : Role → Option Move
name_constructor roles.Upper = by_two (changes.Leaf rules.Word) (changes.Count forms.Variant) waits.ConstructorEnd
name_constructor _ = None

-- a token behind the name of a constructor or of an exception: `of` is left, and any other one shows that there is no argument
unfoldable pub complete_constructor_name : Role → Option Move
complete_constructor_name roles.Of = goes waits.ConstructorEnd
complete_constructor_name _ = by (changes.LeafBefore rules.PlainConstructor) waits.After

-- an `of` behind that name
unfoldable pub open_argument : Role → Option Move
open_argument roles.Of = by (changes.Open forms.ConstructorArgument 1) waits.Type
open_argument _ = None

-- a token where a field begins or a record type ends: `}` is left
unfoldable pub complete_field_type : Role → Option Move
complete_field_type roles.RightBrace = goes waits.FieldTypeOrEnd
complete_field_type _ = goes waits.FieldType

-- a `}` behind the last semicolon of a record type
unfoldable pub close_record_type : Role → Option Move
close_record_type roles.RightBrace = by (changes.Close rules.RecordType) waits.After
close_record_type _ = None

-- a token where a field begins
unfoldable pub begin_field_type : Role → Option Move
begin_field_type roles.Mutable = by_two (changes.Count forms.RecordType) (changes.Open forms.MutableFieldType 1) waits.FieldTypeName
begin_field_type roles.Lower = by_three (changes.Leaf rules.Word) (changes.Count forms.RecordType) (changes.Open forms.FieldType 1) waits.FieldTypeColon
begin_field_type _ = None

-- a token behind `mutable`
unfoldable pub name_field_type : Role → Option Move
name_field_type roles.Lower = by (changes.Leaf rules.Word) waits.FieldTypeColon
name_field_type _ = None

-- a token behind the name of a field
unfoldable pub open_field_type : Role → Option Move
open_field_type roles.Colon = goes waits.Type
open_field_type _ = None

-- a token where the name of an extended type comes
unfoldable pub begin_extended : Role → Option Move
begin_extended roles.Lower = by (changes.Name rules.LongName) waits.ExtendedPlus
begin_extended roles.Upper = by_two (changes.Leaf rules.Word) (changes.Open forms.ExtendedPath 1) waits.ExtendedDot
begin_extended _ = None

-- a token behind an upper name in that name
unfoldable pub after_extended_word : Role → Option Move
after_extended_word roles.Dot = goes waits.ExtendedMember
after_extended_word _ = None

-- a token behind a dot in that name
unfoldable pub take_extended_member : Role → Option Move
take_extended_member roles.Upper = by_two (changes.Leaf rules.Word) (changes.Count forms.ExtendedPath) waits.ExtendedDot
take_extended_member roles.Lower = by_three (changes.Leaf rules.Word) (changes.Count forms.ExtendedPath) (changes.Close rules.LongName) waits.ExtendedPlus
take_extended_member _ = None

-- a token behind the name of an extended type
unfoldable pub extend : Role → Option Move
extend roles.PlusEquals = goes waits.FirstEffect
extend _ = None

-- a token where the first effect comes: a bar is left
unfoldable pub complete_first_effect : Role → Option Move
complete_first_effect roles.Bar = goes waits.FirstEffect
complete_first_effect _ = goes waits.Effect

-- a bar before the first effect
unfoldable pub take_first_effect_bar : Role → Option Move
take_first_effect_bar roles.Bar = goes waits.Effect
take_first_effect_bar _ = None

-- a token where an effect's name comes
unfoldable pub name_effect : Role → Option Move
name_effect roles.Upper = by_two (changes.Leaf rules.Word) (changes.Count forms.Effects) waits.EffectColon
name_effect _ = None

-- a token behind an effect's name
unfoldable pub open_effect : Role → Option Move
open_effect roles.Colon = by (changes.Open forms.PlainEffect 1) waits.Type
open_effect _ = None

-- a token where the name of an exception comes
unfoldable pub name_exception : Role → Option Move
name_exception roles.Upper = by (changes.Leaf rules.Word) waits.ConstructorEnd
name_exception _ = None

-- a token where an upper name of `open` comes
unfoldable pub name_opened : Role → Option Move
name_opened roles.Upper = by_two (changes.Leaf rules.Word) (changes.Count forms.Open) waits.OpenEnd
name_opened _ = None

-- a token behind an upper name of `open`: a dot is left, and any other one ends the item
unfoldable pub complete_opened : Role → Option Move
complete_opened roles.Dot = goes waits.OpenEnd
complete_opened _ = goes waits.After

-- a dot behind an upper name of `open`
unfoldable pub after_opened_word : Role → Option Move
after_opened_word roles.Dot = goes waits.Open
after_opened_word _ = None

-- a semicolon or a `}` behind a field of a record type
unfoldable pub after_field_type : Role → Option Move
after_field_type roles.Semicolon = goes waits.FieldTypeOrEnd
after_field_type roles.RightBrace = by (changes.Close rules.RecordType) waits.After
after_field_type _ = None

-- a bar behind a part, where the next one comes
unfoldable pub next_behind_bar : Role → Awaits → Option Move
next_behind_bar roles.Bar next = goes next
next_behind_bar _ next = None

-- an `and` behind a type definition
unfoldable pub next_definition : Role → Option Move
next_definition roles.And = goes waits.Definition
next_definition _ = None

-- a token behind a whole part of a definition in this form
unfoldable pub after_definition : Role → Form → Option Move
after_definition role forms.Definitions = next_definition role
after_definition role forms.Variant = next_behind_bar role waits.Constructor
after_definition role forms.RecordType = after_field_type role
after_definition role forms.Effects = next_behind_bar role waits.Effect
after_definition role _ = None
