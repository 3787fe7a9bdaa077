use Rattle.gl_edges.proofs.Steps.{ascending_push}
use Rattle.gl_edges.proofs.list.EdgeList.push.Goals as goal

pub invariant_of-self-2 : goal.invariant_of-self-2
invariant_of-self-2 c =
    let above = rw (← c.self.view_is) at c.requires in
    rw c.in_ok-push.ensures.items (ascending_push c.self.inside.pairs.items c.args.edge c.args.sample c.self.invariant above)
