use Rattle.std.proofs.Common.{sym, subst, IfSome, IsTrue, arith}
use Rattle.core_check.specs.Walk.{HasReach}
use Rattle.core_check.specs.Declares.{FormLeads}
use Rattle.core_check.proofs.DeclaredItems.{item_leads}
use Rattle.core_check.proofs.check.item_holds.Goals as goal

pub returns : goal.returns
returns c =
    let held : IsTrue c.in_ok-value_holds.field-0 = grind arith in
    let form : FormLeads c.args.arena.now c.args.tables.now c.args.known c.args.item.now.form c.in-Some.later =
    subst (λ o. IfSome o (λ later. FormLeads c.args.arena.now c.args.tables.now c.args.known c.args.item.now.form later)) c.in-Some.is c.in_ok-later.ensures in
    item_leads c.args.arena.now c.args.tables.now c.args.known c.in-Some.later c.args.item.now c.args.names.now c.value_holds.new.names form
    (λ s cover has. c.in_ok-value_holds.ensures held s cover (subst (λ rs. HasReach c.args.arena.now rs) (sym c.as_slice.ensures.value) has))
