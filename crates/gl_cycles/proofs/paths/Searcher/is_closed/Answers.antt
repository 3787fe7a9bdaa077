use Rattle.std.proofs.Common.{sym, ◌∙◌}
use Rattle.gl_cycles.proofs.EdgesOfPaths.{closed_by_table}
use Rattle.gl_cycles.proofs.paths.Searcher.is_closed.Goals as goal

pub returns : goal.returns
returns c = c.leads_on.ensures ∙ sym (closed_by_table c.args.self.now.table.now c.args.path.now c.requires.within _ _ c.requires.some)
