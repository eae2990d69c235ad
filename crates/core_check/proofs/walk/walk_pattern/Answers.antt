use Rattle.std.proofs.Common.{◌≡◌, ◌<◌, subst, length, slice_index_or, true, arith}
use Rattle.core_check.specs.Walk.{pattern_test, pattern_tasks, Fine}
use Rattle.core_check.proofs.Steps.{pattern_leads}
use Rattle.core_check.proofs.walk.walk_pattern.Goals as goal

pub returns : goal.returns
returns c = λ _ kept s cover has end h.
    let item = c.in-Some.ensures.lookup in
    let inside : c.args.number < length c.args.arena.now.patterns = grind arith in
    let is : c.in-Some.node.now ≡ slice_index_or c.args.arena.now.patterns c.args.number c.in-Some.node.now =
    subst (λ l. c.in-Some.node.now ≡ slice_index_or l c.args.number c.in-Some.node.now) c.patterns.ensures.patterns item.1 in
    let test : pattern_test c.args.known c.args.reach.now c.in-Some.node.now.form ≡ true = grind arith in
    let tasks : c.open_pattern.new.tasks ≡ pattern_tasks (length c.args.names.now) c.in-Some.node.now.form c.args.tasks.now = grind arith in
    pattern_leads c.args.arena.now c.args.known c.args.reach.now c.args.number c.in-Some.node.now c.args.tasks.now c.args.names.now kept
    c.patterns.ensures.stand inside is test s cover has end (subst (λ us. Fine c.args.arena.now s end us c.args.names.now kept) tasks h)
