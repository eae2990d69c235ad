-- What a token does among the bindings of `let`.
use Rattle.std.specs.Prelude.{Bool, true, false, Option, None, if◌then◌else◌}
use Rattle.ml_syntax.specs.declared.role.Role.{Role}
use Rattle.ml_syntax.specs.declared.role.Role.TheVariants as roles
use Rattle.ml_builder.specs.declared.reduction.Rule.TheVariants as rules
use Rattle.ml_moves.specs.declared.form.Form.{Form}
use Rattle.ml_moves.specs.declared.form.Form.TheVariants as forms
use Rattle.ml_moves.specs.declared.form.Position.{Position}
use Rattle.ml_moves.specs.declared.form.Position.TheVariants as positions
use Rattle.ml_moves.specs.declared.awaits.Awaits.TheVariants as waits
use Rattle.ml_moves.specs.declared.moves.Change.TheVariants as changes
use Rattle.ml_moves.specs.declared.moves.Move.{Move}
use Rattle.ml_moves.specs.Moves.{goes, by, by_two}
use Rattle.ml_moves.specs.Level.{begins_pattern}

-- a binding that begins with a pattern, which `let rec` doesn't take
unfoldable pub begin_pattern_binding : Form → Option Move
begin_pattern_binding (forms.Let _) = by (changes.Open forms.BindingPattern 1) waits.Pattern
begin_pattern_binding _ = None

-- a token where a binding begins, in this `let`: a name is left
unfoldable pub complete_binding : Role → Form → Option Move
complete_binding roles.Lower form = goes waits.Binding
complete_binding _ form = begin_pattern_binding form

-- a token behind `let`: `rec` is left
unfoldable pub complete_first_binding : Role → Form → Option Move
complete_first_binding roles.Rec form = goes waits.FirstBinding
complete_first_binding role form = complete_binding role form

-- the name that a binding begins with
unfoldable pub open_name : Form → Option Move
open_name (forms.Let _) = by (changes.Open forms.BindingName 0) waits.Named
open_name (forms.LetRecursive _) = by (changes.Open forms.RecursiveName 0) waits.Named
open_name _ = None

-- a name where a binding begins
unfoldable pub begin_binding : Role → Form → Option Move
begin_binding roles.Lower form = open_name form
begin_binding _ form = None

-- a `rec` behind `let`
unfoldable pub open_recursive : Form → Option Move
open_recursive (forms.Let position) = by (changes.Become (forms.LetRecursive position)) waits.Binding
open_recursive _ = None

-- a token behind `let`: `rec`, or a name
unfoldable pub begin_first_binding : Role → Form → Option Move
begin_first_binding roles.Rec form = open_recursive form
begin_first_binding role form = begin_binding role form

-- whether a token goes on with a name as the beginning of a pattern
unfoldable pub goes_on_as_pattern : Role → Bool
goes_on_as_pattern roles.Comma = true
goes_on_as_pattern roles.DoubleColon = true
goes_on_as_pattern roles.Bar = true
goes_on_as_pattern roles.As = true
goes_on_as_pattern _ = false

-- the name is a word, and what stands behind it its first parameter, `:` or `=`
unfoldable pub begin_head : Role → Form → Option Move
begin_head role head = if begins_pattern role then (by_two (changes.Turn rules.Word head) (changes.Count forms.BindingParameters) waits.Pattern) else (by (changes.Turn rules.Word head) waits.BindingHead)

-- a token behind the name that a binding without `rec` begins with
unfoldable pub complete_plain_name : Role → Option Move
complete_plain_name role = if goes_on_as_pattern role then (by (changes.Turn rules.PatternName forms.BindingPattern) waits.After) else (begin_head role forms.BindingHead)

-- a token behind the name that a binding begins with: the name is a pattern or a part of one, or it is a word
unfoldable pub complete_name : Role → Form → Option Move
complete_name role forms.BindingName = complete_plain_name role
complete_name role forms.RecursiveName = begin_head role forms.RecursiveHead
complete_name role _ = None

-- a `=` behind a name
unfoldable pub open_body : Form → Option Move
open_body forms.BindingHead = by (changes.Become forms.BindingBody) waits.Expression
open_body forms.RecursiveHead = by (changes.Become forms.FunctionBody) waits.Literal
open_body _ = None

-- a colon behind a name
unfoldable pub open_annotation : Form → Option Move
open_annotation forms.BindingHead = by (changes.Become forms.BindingAnnotation) waits.Type
open_annotation forms.RecursiveHead = by (changes.Become forms.RecursiveAnnotation) waits.Type
open_annotation _ = None

-- a token behind the name of a binding without parameters
unfoldable pub take_head : Role → Form → Option Move
take_head roles.Equals form = open_body form
take_head roles.Colon form = open_annotation form
take_head _ form = None

-- an `in` behind bindings: the form that they belong to goes on; where an item began, it is an expression
unfoldable pub open_scope : Position → Form → Option Move
open_scope positions.Inside body = by (changes.Become body) waits.Expression
open_scope positions.Either body = by_two (changes.Become forms.Evaluating) (changes.OpenOver body) waits.Expression
open_scope positions.Item body = None

-- an `in` behind the bindings of this form
unfoldable pub open_scope_of : Form → Option Move
open_scope_of (forms.Let position) = open_scope position forms.LetBody
open_scope_of (forms.LetRecursive position) = open_scope position forms.LetRecursiveBody
open_scope_of _ = None

-- a token behind the bindings of this form
unfoldable pub after_bindings : Role → Form → Option Move
after_bindings roles.And form = by (changes.Count form) waits.Binding
after_bindings roles.In form = open_scope_of form
after_bindings _ form = None
