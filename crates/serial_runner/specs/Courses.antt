-- What became of a turn or a round.
use Rattle.std.specs.Prelude.{Bool, true, false}
use Rattle.serial_runner.specs.declared.turns.Course.{Course}
use Rattle.serial_runner.specs.declared.turns.Course.TheVariants.{Went, Still, Over, Faulted}

-- the run is over
abbrev pub is_over : Course → Bool
is_over Went = false
is_over Still = false
is_over Over = true
is_over Faulted = false
