use Rattle.std.proofs.Common.{List, ℕ}
use Rattle.effect_meaning.specs.Arena.{IsArena}
use Rattle.effect_meaning.specs.ArenaView.{parts_of}
use Rattle.effect_meaning.proofs.ArenaGrows.{pushed, with_literal}
use Rattle.effect_meaning.proofs.core_arena.CoreArena.push_literal.Goals as goal

pub invariant_of-self : goal.invariant_of-self
invariant_of-self c =
    let P : List (List ℕ) → Type 0 = λ l. IsArena (record (parts_of c.self.inside) { literals = l }) in
    pushed c.append.result c.append.new.elements.items c.self.inside.literals.items c.args.text P c.append.ensures.ok c.append.ensures.err c.self.invariant
    (with_literal (parts_of c.self.inside) c.args.text c.self.invariant)
