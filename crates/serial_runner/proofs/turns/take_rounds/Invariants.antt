use Rattle.std.proofs.Common.{◌≡◌, ◌*◌, ◌-◌, ℕ, IsFalse}
use Rattle.rv_model.specs.Run.{machine_of, first, Reaches}
use Rattle.rv_model.specs.Serial as serial
use Rattle.serial_runner.specs.Turns.{IsReady, total}
use Rattle.serial_runner.proofs.turns.take_rounds.Given as goal

-- some number of rounds has gone by
abbrev pub invariant-rounds : goal.invariant-rounds
invariant-rounds l =
    IsReady l.image l.harts l.memory.words.items
    × Reaches l.image (machine_of l.harts l.memory.words.items)
    × IsFalse (serial.is_over l.image (machine_of l.harts l.memory.words.items))
    × (n : ℕ) × (serial.rounds l.image l.turns.count n (first l.image) ≡ machine_of l.harts l.memory.words.items)

-- the instructions that all harts may still take
abbrev pub decreases-rounds : goal.decreases-rounds
decreases-rounds l = l.image.settings.domains * l.image.settings.budget - total l.harts
