use Rattle.std.proofs.Common.{◌≡◌, ◌<◌, subst, length, slice_index_or, true, arith}
use Rattle.core_check.specs.Walk.{term_test, term_tasks, Fine}
use Rattle.core_check.proofs.Steps.{term_leads}
use Rattle.core_check.proofs.walk.walk_term.Goals as goal

pub returns : goal.returns
returns c = λ _ kept s cover has end h.
    let item = c.in-Some.ensures.lookup in
    let inside : c.args.number < length c.args.arena.now.terms = grind arith in
    let is : c.in-Some.node.now ≡ slice_index_or c.args.arena.now.terms c.args.number c.in-Some.node.now =
    subst (λ l. c.in-Some.node.now ≡ slice_index_or l c.args.number c.in-Some.node.now) c.terms.ensures.terms item.1 in
    let test : term_test c.args.known c.args.reach.now c.args.names.now c.in-Some.node.now.form ≡ true = grind arith in
    let tasks : c.open_term.new.tasks ≡ term_tasks (length c.args.names.now) c.in-Some.node.now.form c.args.tasks.now = grind arith in
    term_leads c.args.arena.now c.args.known c.args.reach.now c.args.number c.in-Some.node.now c.args.tasks.now c.args.names.now kept
    c.terms.ensures.stand inside is test s cover has end (subst (λ us. Fine c.args.arena.now s end us c.args.names.now kept) tasks h)
