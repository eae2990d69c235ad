-- What a token does among the clauses of `match`, `try` and `function`.
use Rattle.std.specs.Prelude.{Option, None}
use Rattle.ml_syntax.specs.declared.role.Role.{Role}
use Rattle.ml_syntax.specs.declared.role.Role.TheVariants as roles
use Rattle.ml_builder.specs.declared.reduction.Rule.TheVariants as rules
use Rattle.ml_moves.specs.declared.form.Form.{Form}
use Rattle.ml_moves.specs.declared.form.Form.TheVariants as forms
use Rattle.ml_moves.specs.declared.awaits.Awaits.TheVariants as waits
use Rattle.ml_moves.specs.declared.moves.Change.TheVariants as changes
use Rattle.ml_moves.specs.declared.moves.Move.{Move}
use Rattle.ml_moves.specs.Moves.{goes, by, by_two}

-- the same clauses, one of which is for values
unfoldable pub with_value : Form → Form
with_value forms.MatchClauses = forms.MatchValues
with_value form = form

-- a clause for values
unfoldable pub begin_value : Form → Option Move
begin_value form = by_two (changes.Become (with_value form)) (changes.Open forms.ValueClause 1) waits.Pattern

-- an `effect` where a clause begins: `match` and `try` take such clauses
unfoldable pub complete_effect : Form → Option Move
complete_effect forms.FunctionClauses = begin_value forms.FunctionClauses
complete_effect _ = goes waits.Clause

-- an `exception` where a clause begins: `match` takes such clauses
unfoldable pub complete_exception : Form → Option Move
complete_exception forms.MatchClauses = goes waits.Clause
complete_exception forms.MatchValues = goes waits.Clause
complete_exception form = begin_value form

-- a token where one of these clauses begins: the keyword of a clause is left, and any other token begins the pattern of a clause for values
unfoldable pub complete_clause : Role → Form → Option Move
complete_clause roles.Effect form = complete_effect form
complete_clause roles.Exception form = complete_exception form
complete_clause _ form = begin_value form

-- a token where the first clause begins: a bar is left
unfoldable pub complete_first_clause : Role → Form → Option Move
complete_first_clause roles.Bar form = goes waits.FirstClause
complete_first_clause role form = complete_clause role form

-- a bar before the first clause
unfoldable pub take_first_bar : Role → Option Move
take_first_bar roles.Bar = goes waits.Clause
take_first_bar _ = None

-- the keyword of a clause
unfoldable pub begin_clause : Role → Option Move
begin_clause roles.Effect = by (changes.Open forms.EffectClause 1) waits.EffectPattern
begin_clause roles.Exception = by (changes.Open forms.ExceptionClause 1) waits.Pattern
begin_clause _ = None

-- a token where the continuation of an effect clause comes
unfoldable pub name_continuation : Role → Option Move
name_continuation roles.Lower = by (changes.Leaf rules.PatternName) waits.ContinuationArrow
name_continuation roles.Underscore = by (changes.Leaf rules.PatternAny) waits.ContinuationArrow
name_continuation _ = None

-- a token behind that continuation
unfoldable pub open_effect_answer : Role → Option Move
open_effect_answer roles.RightArrow = by (changes.Become forms.EffectAnswer) waits.Expression
open_effect_answer _ = None

-- a bar behind a clause, in this form
unfoldable pub next_clause : Role → Form → Option Move
next_clause roles.Bar form = by (changes.Count form) waits.Clause
next_clause _ form = None
