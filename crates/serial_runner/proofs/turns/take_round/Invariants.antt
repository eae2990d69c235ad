use Rattle.std.proofs.Common.{◌≡◌, ◌≢◌, ◌≤◌, ◌<◌, ◌-◌, ℕ, IsFalse}
use Rattle.rv_model.specs.Run.{machine_of, Reaches}
use Rattle.rv_model.specs.Serial as serial
use Rattle.serial_runner.specs.Courses.{is_over}
use Rattle.serial_runner.specs.Turns.{IsReady, HasNoStep, HasFault, total}
use Rattle.serial_runner.specs.declared.turns.Course.TheVariants.{Went, Faulted}
use Rattle.serial_runner.proofs.turns.take_round.Given as goal

-- the turns of the other harts lead to where the whole round leads
abbrev pub invariant-loop-number : goal.invariant-loop-number
invariant-loop-number l =
    IsReady l.image l.harts l.memory.words.items
    × (Reaches l.image (machine_of l.initial.harts l.initial.memory.words.items) → Reaches l.image (machine_of l.harts l.memory.words.items))
    × (serial.turns_from l.image l.turns.count l.number (l.image.settings.domains - l.number) (machine_of l.harts l.memory.words.items) ≡ serial.turns_from l.image l.turns.count 0 l.image.settings.domains (machine_of l.initial.harts l.initial.memory.words.items))
    × (total l.initial.harts ≤ total l.harts)
    × (l.round ≡ Went → total l.initial.harts < total l.harts)
    × IsFalse (serial.is_over l.image (machine_of l.harts l.memory.words.items))
    × IsFalse (is_over l.round)
    × (l.round ≢ Faulted)
    × (l.round ≢ Went → (i : ℕ) → i < l.number → HasNoStep l.image i (machine_of l.harts l.memory.words.items))
    × (l.round ≢ Went → (i : ℕ) → i < l.number → HasFault l.image i (machine_of l.harts l.memory.words.items) → ⊥)
