use Rattle.std.proofs.Common.{sym, ◌∙◌}
use Rattle.gl_filters.specs.Picked.{edges_of_table}
use Rattle.gl_walks.proofs.Ends.{round_by}
use Rattle.gl_walks.proofs.Places.{edge_at, ends_by_table, some_from_test}
use Rattle.gl_walks.proofs.search.Search.leads_round.Goals as goal

pub returns : goal.returns
returns c = λ not.
    let table = c.args.self.now.area.table.now in
    let path = c.args.path.now in
    let ends = ends_by_table table path c.requires.within c.index-self-first.result c.index-self-first.result (some_from_test path c.if-is_empty.ensures) in
    round_by (edges_of_table table) path c.args.next _ _ _ ends (edge_at table c.args.next c.index-self-next.result c.requires.there) ∙ sym c.leads_on.ensures ∙ not
