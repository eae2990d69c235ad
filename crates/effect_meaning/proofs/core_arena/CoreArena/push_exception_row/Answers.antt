use Rattle.std.proofs.Common.{List, sym, subst}
use Rattle.effect_meaning.specs.Arena.{IsArena, counts, ExceptionStands}
use Rattle.effect_meaning.specs.ArenaView.{parts_of}
use Rattle.effect_meaning.specs.declared.core_tables.ExceptionRow.{ExceptionRow}
use Rattle.effect_meaning.proofs.ArenaGrows.{pushed, with_exception_row}
use Rattle.effect_meaning.proofs.core_arena.CoreArena.push_exception_row.Goals as goal

pub invariant_of-self : goal.invariant_of-self
invariant_of-self c =
    let P : List ExceptionRow → Type 0 = λ l. IsArena (record (parts_of c.self.inside) { exception_rows = l }) in
    pushed c.append.result c.append.new.elements.items c.self.inside.exception_rows.items c.args.row P c.append.ensures.ok c.append.ensures.err c.self.invariant
    (with_exception_row (parts_of c.self.inside) c.args.row c.self.invariant (subst (λ p. ExceptionStands (counts p) c.args.row) (sym c.self.view_is) c.requires))
