use Rattle.std.proofs.Common.{List}
use Rattle.effect_meaning.specs.Arena.{IsArena}
use Rattle.effect_meaning.specs.ArenaView.{parts_of}
use Rattle.effect_meaning.specs.declared.core_tables.TypeRow.{TypeRow}
use Rattle.effect_meaning.proofs.ArenaGrows.{pushed, with_type_row}
use Rattle.effect_meaning.proofs.core_arena.CoreArena.push_type_row.Goals as goal

pub invariant_of-self : goal.invariant_of-self
invariant_of-self c =
    let P : List TypeRow → Type 0 = λ l. IsArena (record (parts_of c.self.inside) { type_rows = l }) in
    pushed c.append.result c.append.new.elements.items c.self.inside.type_rows.items c.args.row P c.append.ensures.ok c.append.ensures.err c.self.invariant
    (with_type_row (parts_of c.self.inside) c.args.row c.self.invariant)
