use Rattle.std.proofs.Common.{◌++◌, sym, ap, ◌∙◌}
use Rattle.std.proofs.lemmas.List.{append_assoc}
use Rattle.gl_edges.specs.Edges.{once}
use Rattle.gl_edges.proofs.Filling.{once_before}
use Rattle.gl_edges.proofs.batch.Batch.add_list.Goals as goal

pub returns : goal.returns
returns c =
    let ended = c.self.inside.ended.items in
    let pairs = c.self.inside.pairs.items in
    let list = c.args.list in
    rw (c.in_ok-move_behind.ensures.all, c.into_vec-pairs.ensures.pairs)
    (ap once (sym (append_assoc ended pairs list))
    ∙ sym (once_before (ended ++ pairs) list)
    ∙ ap (λ held. once (held ++ list)) c.self.view_is)
