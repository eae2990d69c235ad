-- What a token does.
use Rattle.std.specs.Prelude.{Option, Some}
use Rattle.ml_moves.specs.declared.awaits.Awaits.{Awaits}
use Rattle.ml_moves.specs.declared.moves.Change.{Change}
use Rattle.ml_moves.specs.declared.moves.Change.TheVariants as changes
use Rattle.ml_moves.specs.declared.moves.Move.{Move}

-- three changes
unfoldable pub by_three : Change → Change → Change → Awaits → Option Move
by_three first second third next = Some record { first = first; second = second; third = third; next = next }

-- what is left as it is
unfoldable pub goes : Awaits → Option Move
goes next = by_three changes.Nothing changes.Nothing changes.Nothing next

-- one change
unfoldable pub by : Change → Awaits → Option Move
by change next = by_three change changes.Nothing changes.Nothing next

-- two changes
unfoldable pub by_two : Change → Change → Awaits → Option Move
by_two first second next = by_three first second changes.Nothing next
