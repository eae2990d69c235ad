-- What a token does between items.
use Rattle.std.specs.Prelude.{Option, None, if◌then◌else◌}
use Rattle.ml_syntax.specs.declared.role.Role.{Role}
use Rattle.ml_syntax.specs.declared.role.Role.TheVariants as roles
use Rattle.ml_moves.specs.declared.form.Form.TheVariants as forms
use Rattle.ml_moves.specs.declared.form.Position.{Position}
use Rattle.ml_moves.specs.declared.awaits.Awaits.TheVariants as waits
use Rattle.ml_moves.specs.declared.moves.Change.TheVariants as changes
use Rattle.ml_moves.specs.declared.moves.Move.{Move}
use Rattle.ml_syntax.specs.Level.{begins_expression}
use Rattle.ml_moves.specs.Moves.{goes, by}
use Rattle.ml_moves.specs.Level.{ends_item}

-- an expression that is an item
unfoldable pub begin_expression_item : Role → Option Move
begin_expression_item role = if begins_expression role then (by (changes.Open forms.Evaluating 1) waits.Expression) else None

-- a token where an item or an expression may begin: the keyword of an item is left
unfoldable pub complete_first_item : Role → Option Move
complete_first_item role = if ends_item role then (goes waits.FirstItem) else (begin_expression_item role)

-- the keyword of an item, or `;;`; a `let` stands in this position
unfoldable pub begin_item : Role → Position → Option Move
begin_item roles.DoubleSemicolon position = goes waits.FirstItem
begin_item roles.Let position = by (changes.Open (forms.Let position) 1) waits.FirstBinding
begin_item roles.Type position = by (changes.Open forms.Definitions 0) waits.Definitions
begin_item roles.Exception position = by (changes.Open forms.Exception 1) waits.Exception
begin_item roles.Open position = by (changes.Open forms.Open 0) waits.Open
begin_item _ position = None
