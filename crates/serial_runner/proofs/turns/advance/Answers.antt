use Rattle.std.proofs.Common.{◌≡◌, subst, arith}
use Rattle.std.specs.Prelude.{Some, slice_get, slice_index_or}
use Rattle.std.proofs.lemmas.Option.{slice_get-get_or}
use Rattle.rv_model.specs.declared.hart.Hart.{Hart}
use Rattle.serial_runner.proofs.Counts.{below_budget, over_by}
use Rattle.serial_runner.proofs.Steps.{Told, steps, still, at_fault, counted, counted_at, ready_after}
use Rattle.serial_runner.proofs.turns.advance.Goals.{After-step}
use Rattle.serial_runner.proofs.turns.advance.Goals as goal

pub step-requires-clause-below : goal.step-requires-clause-below
step-requires-clause-below c =
    let h = slice_index_or c.args.harts.now c.args.number c.index-harts-number.result in
    let here : slice_get c.args.harts.now c.args.number ≡ Some h = slice_get-get_or c.args.harts.now c.args.number c.index-harts-number.result c.requires.number in
    let b = below_budget c.args.image.now c.args.harts.now c.args.memory.now.words.items c.args.number h c.requires.ready c.requires.running here in
    let most = c.args.image.now.settings.budget_in_range.1 in
    omega (arith, b, most)

-- the hart before the step
abbrev hart_at : After-step → Hart
hart_at c = slice_index_or c.args.harts.now c.args.number c.index-harts-number.result

here : (c : After-step) → slice_get c.args.harts.now c.args.number ≡ Some (hart_at c)
here c = slice_get-get_or c.args.harts.now c.args.number c.index-harts-number.result c.requires.number

told : (c : After-step) → Told c.args.image.now.size c.args.image.now.code (hart_at c) c.step.new.hart c.args.memory.now.words.items c.step.new.memory.words.items c.step.result
told c = subst (λ n. Told n c.args.image.now.code (hart_at c) c.step.new.hart c.args.memory.now.words.items c.step.new.memory.words.items c.step.result) c.requires.ready.size (record {
  well_formed = c.instrs-instrs.ensures.well_formed;
  answer = c.step.new.memory.last;
  turned = c.step.ensures.turn;
  told = c.step.ensures.told;
  found = c.step.ensures.found;
  unchanged = λ other. (c.step.ensures.unchanged other).0;
})

pub returns-clause-ready : goal.returns-clause-ready
returns-clause-ready c = ready_after c.args.image.now c.args.harts.now c.args.number (hart_at c) c.step.new.hart c.args.memory.now.words.items c.step.new.memory.words.items (here c) c.requires.ready c.requires.running c.step.ensures.retired c.step.ensures.same.0

pub returns-clause-went : goal.returns-clause-went
returns-clause-went c went = steps c.args.image.now c.args.harts.now c.args.number (hart_at c) c.step.new.hart c.args.memory.now.words.items c.step.new.memory.words.items c.step.result (here c) (told c) c.requires.running went

pub returns-clause-stays : goal.returns-clause-stays
returns-clause-stays c stays = still c.args.image.now c.args.harts.now c.args.number (hart_at c) c.step.new.hart c.args.memory.now.words.items c.step.new.memory.words.items c.step.result (here c) (told c) c.requires.running stays

pub returns-clause-fault : goal.returns-clause-fault
returns-clause-fault c = at_fault c.args.image.now c.args.harts.now c.args.number (hart_at c) c.step.new.hart c.args.memory.now.words.items c.step.new.memory.words.items c.step.result (here c) (told c)

pub returns-clause-total : goal.returns-clause-total
returns-clause-total c = counted c.args.image.now.size c.args.image.now.code c.args.harts.now c.args.number (hart_at c) c.step.new.hart c.args.memory.now.words.items c.step.new.memory.words.items c.step.result (here c) (told c)

pub returns-clause-count : goal.returns-clause-count
returns-clause-count c = counted_at c.args.image.now.size c.args.image.now.code c.args.harts.now c.args.number (hart_at c) c.step.new.hart c.args.memory.now.words.items c.step.new.memory.words.items c.step.result (here c) (told c)

pub returns-clause-over : goal.returns-clause-over
returns-clause-over c = over_by c.args.image.now c.args.harts.now c.args.memory.now.words.items c.step.new.memory.words.items c.args.number (hart_at c) c.step.new.hart c.requires.running (here c)
