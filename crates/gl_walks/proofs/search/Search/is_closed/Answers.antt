use Rattle.std.proofs.Common.{sym, ◌∙◌}
use Rattle.gl_filters.specs.Picked.{edges_of_table}
use Rattle.gl_walks.proofs.Ends.{closed_by}
use Rattle.gl_walks.proofs.Places.{ends_by_table, some_from_test}
use Rattle.gl_walks.proofs.search.Search.is_closed.Goals as goal

pub returns : goal.returns
returns c =
    let table = c.args.self.now.area.table.now in
    c.leads_on.ensures ∙ sym (closed_by (edges_of_table table) c.args.path.now _ _ (ends_by_table table c.args.path.now c.requires.within _ _ (some_from_test c.args.path.now c.if-is_empty.ensures)))
