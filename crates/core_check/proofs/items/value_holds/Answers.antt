use Rattle.std.proofs.Common.{◌≡◌, subst, length, [], true, IsTrue, arith}
use Rattle.core_check.specs.Walk.{Fine}
use Rattle.core_check.specs.Items.{item_tasks, item_test}
use Rattle.core_check.proofs.ValueItems.{value_step}
use Rattle.core_check.proofs.items.value_holds.Goals as goal

pub returns : goal.returns
returns c = λ _ s cover has place.
    let tasks : c.open_item.new.tasks ≡ item_tasks (length c.args.names.now) c.args.form.now [] = grind arith in
    let held : IsTrue c.in_ok-run.field-0 = grind arith in
    let fine : Fine c.args.arena.now s c.run.new.names c.open_item.new.tasks c.args.names.now [] = c.in_ok-run.ensures held s cover has in
    let test : item_test c.args.known c.args.reach.now c.args.form.now ≡ true = grind arith in
    value_step c.args.arena.now s c.run.new.names c.args.known c.args.reach.now cover has place c.args.form.now c.args.names.now test
    (subst (λ ts. Fine c.args.arena.now s c.run.new.names ts c.args.names.now []) tasks fine)
