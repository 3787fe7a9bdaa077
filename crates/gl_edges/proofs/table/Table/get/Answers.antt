use Rattle.std.proofs.Common.{sym, ◌∙◌}
use Rattle.gl_edges.proofs.Filling.{found_is_there, there_is_found}
use Rattle.gl_edges.proofs.table.Table.get.Goals as goal

pub returns : goal.returns
returns c = λ sample.
    let pairs = c.self.inside.edges.entries in
    let edge = c.args.edge.now in
    let found = c.copied.ensures ∙ c.get.ensures.value in
    rw (← c.self.view_is)
    (λ is. found_is_there pairs edge sample (sym found ∙ is), λ at. found ∙ there_is_found pairs edge sample c.self.invariant at)
