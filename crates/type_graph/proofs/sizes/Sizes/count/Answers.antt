use Rattle.std.proofs.Common.{◌≡◌, ◌∙◌, ◌-◌, ◌+◌, length, sym, ap, None, Some, arith}
use Rattle.type_graph.specs.Sized.{type_counted, if_fits}
use Rattle.type_graph.proofs.Counted.{types_done, types_once}
use Rattle.type_graph.proofs.sizes.Sizes.count.Goals as goal

pub returns-then-not-branch : goal.returns-then-not-branch
returns-then-not-branch c =
    let met : type_counted c.args.types.now c.loop-n.n c.loop-n.sizes ≡ None = c.in_ok-count_one.ensures ∙ ap (λ b. if_fits b c.count_one.new.self) c.if-not-branch.true in
    sym c.loop-n.invariant
    ∙ sym (types_once (length c.args.types.now.nodes - c.loop-n.n) (length c.args.types.now.nodes - (c.loop-n.n + 1)) c.loop-n.n c.args.types.now c.loop-n.sizes
    None (grind arith) met)

pub loop-n-preserved : goal.loop-n-preserved
loop-n-preserved c =
    let met : type_counted c.args.types.now c.loop-n.n c.loop-n.sizes ≡ Some c.count_one.new.self = c.in_ok-count_one.ensures ∙ ap (λ b. if_fits b c.count_one.new.self) c.if-not-branch.false in
    types_once (length c.args.types.now.nodes - c.loop-n.n) (length c.args.types.now.nodes - (c.loop-n.n + 1)) c.loop-n.n c.args.types.now c.loop-n.sizes
    (Some c.count_one.new.self) (grind arith) met
    ∙ c.loop-n.invariant

pub returns : goal.returns
returns c =
    sym c.loop-n.invariant
    ∙ types_done (length c.args.types.now.nodes - c.loop-n.n) c.loop-n.n c.args.types.now c.loop-n.sizes (grind arith)
