use Rattle.std.proofs.Common.{List, sym, subst}
use Rattle.effect_meaning.specs.Arena.{IsArena, counts, PatternStands}
use Rattle.effect_meaning.specs.ArenaView.{parts_of}
use Rattle.effect_meaning.specs.declared.core_nodes.PatternNode.{PatternNode}
use Rattle.effect_meaning.proofs.ArenaGrows.{pushed, with_pattern}
use Rattle.effect_meaning.proofs.core_arena.CoreArena.push_pattern.Goals as goal

pub invariant_of-self : goal.invariant_of-self
invariant_of-self c =
    let P : List PatternNode → Type 0 = λ l. IsArena (record (parts_of c.self.inside) { patterns = l }) in
    pushed c.append.result c.append.new.elements.items c.self.inside.patterns.items c.args.node P c.append.ensures.ok c.append.ensures.err c.self.invariant
    (with_pattern (parts_of c.self.inside) c.args.node c.self.invariant (subst (λ p. PatternStands (counts p) c.args.node) (sym c.self.view_is) c.requires))
