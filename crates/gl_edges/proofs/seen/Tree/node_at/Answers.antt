use Rattle.gl_edges.proofs.Ways.{leads_added, leads_found, noted_stays}
use Rattle.gl_edges.proofs.seen.Tree.node_at.Goals as goal

pub returns-in-Some-clause-leads : goal.returns-in-Some-clause-leads
returns-in-Some-clause-leads c = leads_found c.args.self.now c.args.branch _ c.in-Some.number c.in-Some.ensures

pub returns-clause-leads : goal.returns-clause-leads
returns-clause-leads c = leads_added c.args.self.now c.add.new.self c.args.branch _ c.in_ok-number.number c.in_ok-number.ensures.added c.in_ok-number.ensures.number

pub returns-clause-noted : goal.returns-clause-noted
returns-clause-noted c = noted_stays c.args.self.now c.add.new.self c.args.branch c.in_ok-number.ensures.added
