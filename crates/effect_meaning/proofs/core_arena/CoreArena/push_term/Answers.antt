use Rattle.std.proofs.Common.{List, sym, subst}
use Rattle.effect_meaning.specs.Arena.{IsArena, counts, TermStands}
use Rattle.effect_meaning.specs.ArenaView.{parts_of}
use Rattle.effect_meaning.specs.declared.core_nodes.TermNode.{TermNode}
use Rattle.effect_meaning.proofs.ArenaGrows.{pushed, with_term}
use Rattle.effect_meaning.proofs.core_arena.CoreArena.push_term.Goals as goal

pub invariant_of-self : goal.invariant_of-self
invariant_of-self c =
    let P : List TermNode → Type 0 = λ l. IsArena (record (parts_of c.self.inside) { terms = l }) in
    pushed c.append.result c.append.new.elements.items c.self.inside.terms.items c.args.node P c.append.ensures.ok c.append.ensures.err c.self.invariant
    (with_term (parts_of c.self.inside) c.args.node c.self.invariant (subst (λ p. TermStands (counts p) c.args.node) (sym c.self.view_is) c.requires))
