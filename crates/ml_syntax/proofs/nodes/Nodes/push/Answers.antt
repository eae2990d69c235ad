use Rattle.ml_syntax.proofs.Grows.{arena_grows}
use Rattle.ml_syntax.proofs.nodes.Nodes.push.Goals as goal

pub invariant_of-self-in-Some : goal.invariant_of-self-in-Some
invariant_of-self-in-Some c =
    rw (c.in_ok-append_both-in-Some.ensures.values, c.in_ok-append_both-in-Some.ensures.numbers, c.max-self-inside.ensures)
    (arena_grows c.self.inside.nodes.items c.self.inside.depths.items c.self.inside.deepest c.args.node c.in-Some.depth c.self.invariant
    c.in_ok-append_both-in-Some.ensures.few (rw (← c.as_slice.ensures.value) c.in-Some.ensures))
