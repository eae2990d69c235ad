use Rattle.std.proofs.Common.{◌≡◌, ◌∙◌, ◌-◌, ◌+◌, sym, Some, None, arith}
use Rattle.type_graph.specs.Graph.{link_of, node_at}
use Rattle.type_graph.proofs.Links.{followed_link, followed_last, followed_all}
use Rattle.type_graph.proofs.types.Types.root.Goals as goal

pub returns-in_default : goal.returns-in_default
returns-in_default c =
    let is : link_of (node_at c.args.self.now.nodes c.loop-links.at).form ≡ None = cc (c.in_default.is, c.link.ensures, c.node.ensures) in
    sym (followed_last (32 - c.loop-links._links) c.args.self.now.nodes c.loop-links.at is) ∙ c.loop-links.invariant

pub loop-links-preserved : goal.loop-links-preserved
loop-links-preserved c =
    let is : link_of (node_at c.args.self.now.nodes c.loop-links.at).form ≡ Some c.in-Some.next = cc (c.in-Some.is, c.link.ensures, c.node.ensures) in
    followed_link (32 - c.loop-links._links) (32 - (c.loop-links._links + 1)) c.args.self.now.nodes c.loop-links.at c.in-Some.next (omega arith) is
    ∙ c.loop-links.invariant

pub returns : goal.returns
returns c =
    sym (followed_all (32 - c.loop-links._links) c.args.self.now.nodes c.loop-links.at (omega arith)) ∙ c.loop-links.invariant
