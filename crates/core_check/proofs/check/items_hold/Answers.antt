use Rattle.std.proofs.Common.{◌≡◌, ◌+◌, ◌<◌, ◌≤◌, ◌∙◌, ap, subst, ℕ, List, ◌∷◌, [], drop, length, slice_index_or, IfSome, arith}
use Rattle.std.proofs.lemmas.List.{drop_more, drop_all}
use Rattle.effect_meaning.specs.Arena.{Parts}
use Rattle.effect_meaning.specs.Scoped.{first_scope, items_scoped}
use Rattle.effect_meaning.specs.declared.core_tables.Item.{Item}
use Rattle.core_check.specs.declared.tables.Tables.{Tables}
use Rattle.core_check.specs.Declares.{builtin_known, ItemLeads, ItemsLead}
use Rattle.core_check.proofs.DeclaredItems.{items_lead, first_agrees}
use Rattle.core_check.proofs.check.items_hold.Goals as goal

pub loop-item-preserved : goal.loop-item-preserved
loop-item-preserved c =
    let p : Parts = c.args.arena.now in
    let tb : Tables = c.args.tables.now in
    let xs : List Item = c.items-item-items.result.now in
    let n : ℕ = c.loop-item.item-index in
    let i : Item = c.item-item.result in
    let inside : n < length xs = grind arith in
    let got : slice_index_or xs n i ≡ i = grind arith in
    let parts : drop n xs ≡ i ∷ drop (n + 1) xs = drop_more xs n i inside ∙ ap (λ x. x ∷ drop (n + 1) xs) got in
    let before : ItemsLead p tb builtin_known [] p.items c.loop-item.known c.loop-item.names (i ∷ drop (n + 1) xs) =
    subst (λ l. ItemsLead p tb builtin_known [] p.items c.loop-item.known c.loop-item.names l) parts c.loop-item.invariant in
    let one : ItemLeads p tb c.loop-item.known c.loop-item.names i c.in-Some.later c.item_holds.new.names =
    subst (λ o. IfSome o (λ later. ItemLeads p tb c.loop-item.known c.loop-item.names i later c.item_holds.new.names)) c.in-Some.is c.in_ok-later.ensures in
    items_lead p tb builtin_known c.loop-item.known c.in-Some.later [] c.loop-item.names c.item_holds.new.names p.items i (drop (n + 1) xs) before one

pub returns : goal.returns
returns c = λ _ worked rows.
    let p : Parts = c.args.arena.now in
    let xs : List Item = c.items-item-items.result.now in
    let n : ℕ = c.loop-item.item-index in
    let past : length xs ≤ n = grind arith in
    let none : drop n xs ≡ [] = drop_all n xs past in
    c.loop-item.invariant worked rows (λ s agrees. ap (λ l. items_scoped p s l) none) first_scope first_agrees
