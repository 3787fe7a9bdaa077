use Rattle.gl_edges.proofs.Ways.{leads_found}
use Rattle.gl_edges.proofs.seen.Tree.step.Goals as goal

pub returns-in-Some-clause-leads : goal.returns-in-Some-clause-leads
returns-in-Some-clause-leads c = leads_found c.args.self.now c.args.branch _ c.unwrap_or-latest.result.now c.in-Some.ensures
