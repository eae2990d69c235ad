use Rattle.std.proofs.Common.{◌≡◌, ◌≤◌, ◌+◌, ◌-◌}
use Rattle.std.specs.Prelude.{◌==◌}
use Rattle.rv_model.specs.Run.{machine_of}
use Rattle.rv_model.specs.Serial as serial
use Rattle.serial_runner.specs.Turns.{IsReady, total, retired_at}
use Rattle.serial_runner.proofs.turns.take_turn.Given as goal

-- the rest of the turn leads to where the whole turn leads; the end word is 0
abbrev pub invariant-loop-done : goal.invariant-loop-done
invariant-loop-done l =
    IsReady l.image l.harts l.memory.words.items
    × (serial.turn l.image (l.fn.turns.count - l.done) l.number (machine_of l.harts l.memory.words.items) ≡ serial.turn l.image l.fn.turns.count l.number (machine_of l.initial.harts l.initial.memory.words.items))
    × (retired_at l.number l.harts ≡ retired_at l.number l.initial.harts + l.done)
    × (serial.is_over l.image (machine_of l.harts l.memory.words.items) ≡ (retired_at l.number l.harts == l.image.settings.budget))
    × (total l.initial.harts + l.done ≤ total l.harts)
    × (l.done ≡ 0 → machine_of l.harts l.memory.words.items ≡ machine_of l.initial.harts l.initial.memory.words.items)
