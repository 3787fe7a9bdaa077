use Rattle.std.proofs.Common.{sym, ◌∙◌}
use Rattle.std.proofs.lemmas.Result.{IfOk-weaker}
use Rattle.gl_edges.proofs.Filling.{once_of_none}
use Rattle.gl_edges.proofs.gather.edges_of_part.Goals as goal

pub returns : goal.returns
returns c =
    let known = c.in_ok-take_part.ensures _ (record { is = c.new-gatherer.ensures ∙ sym once_of_none }) in
    IfOk-weaker c.into_list.result _ _ (λ l is. is ∙ known.is) c.into_list.ensures
