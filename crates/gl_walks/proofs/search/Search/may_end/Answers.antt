use Rattle.std.proofs.Common.{sym, ap, ◌∙◌, arith}
use Rattle.gl_filters.specs.Picked.{edges_of_table, picked}
use Rattle.gl_walks.specs.bodies.Fronts.{may_end}
use Rattle.gl_walks.proofs.Ends.{end_by}
use Rattle.gl_walks.proofs.search.Search.may_end.Goals as goal

-- there are two edges or more
pub returns-else-path-lt2 : goal.returns-else-path-lt2
returns-else-path-lt2 c =
    let edges = edges_of_table c.args.self.now.area.table.now in
    c.is_closed.ensures ∙ sym (ap (λ p. may_end p (picked edges c.args.path.now)) c.in-Cycle.is ∙ end_by edges c.args.path.now c.requires.within (omega arith))
