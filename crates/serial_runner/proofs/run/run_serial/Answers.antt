use Rattle.rv_model.specs.Run.{Reach}
use Rattle.serial_runner.proofs.Causes.{budget_spent, deadlock}
use Rattle.serial_runner.proofs.Opening.{reach_first, same_at, start_first}
use Rattle.serial_runner.proofs.run.run_serial.Goals as goal

pub returns-then-has_room-clause-budget_spent : goal.returns-then-has_room-clause-budget_spent
returns-then-has_room-clause-budget_spent c kept =
    let r = c.run.ensures in
    budget_spent c.args.image.now c.args.turns.count c.run.result.words c.run.result.harts (r.sound kept).kind (r.serial kept) c.run.result.end (r.end kept)

pub returns-then-has_room-clause-deadlock : goal.returns-then-has_room-clause-deadlock
returns-then-has_room-clause-deadlock c kept =
    let r = c.run.ensures in
    deadlock c.args.image.now c.args.turns.count c.run.result.words c.run.result.harts (r.sound kept).kind (r.serial kept) c.run.result.end (r.end kept)

pub returns-else-has_room-clause-reach : goal.returns-else-has_room-clause-reach
returns-else-has_room-clause-reach c =
    let first = start_first c.args.image.now c.in_ok-harts.harts.items c.in_ok-words.words.items c.in_ok-harts.ensures c.in_ok-words.ensures.words in
    same_at (Reach c.args.image.now) c.in_ok-words.words.items c.broken.result.words c.in_ok-harts.harts.items c.broken.result.harts
    (c.in_ok-words.ensures.size, reach_first c.args.image.now c.in_ok-harts.harts.items c.in_ok-words.words.items first)
    c.broken.ensures.words
    c.broken.ensures.harts
