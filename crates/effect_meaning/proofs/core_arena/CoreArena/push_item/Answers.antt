use Rattle.std.proofs.Common.{List, sym, subst}
use Rattle.effect_meaning.specs.Arena.{IsArena, counts, ItemStands}
use Rattle.effect_meaning.specs.ArenaView.{parts_of}
use Rattle.effect_meaning.specs.declared.core_tables.Item.{Item}
use Rattle.effect_meaning.proofs.ArenaGrows.{pushed, with_item}
use Rattle.effect_meaning.proofs.core_arena.CoreArena.push_item.Goals as goal

pub invariant_of-self : goal.invariant_of-self
invariant_of-self c =
    let P : List Item → Type 0 = λ l. IsArena (record (parts_of c.self.inside) { items = l }) in
    pushed c.append.result c.append.new.elements.items c.self.inside.items.items c.args.item P c.append.ensures.ok c.append.ensures.err c.self.invariant
    (with_item (parts_of c.self.inside) c.args.item c.self.invariant (subst (λ p. ItemStands (counts p) c.args.item) (sym c.self.view_is) c.requires))
