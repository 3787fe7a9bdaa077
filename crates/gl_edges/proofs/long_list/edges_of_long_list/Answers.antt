use Rattle.std.proofs.Common.{◌∙◌, ap, length, refl}
use Rattle.std.proofs.lemmas.Result.{IfOk-weaker}
use Rattle.std.specs.List.{flat_map}
use Rattle.gl_edges.specs.Edges.{once}
use Rattle.gl_edges.specs.bodies.Sharing.{edges_of_places}
use Rattle.gl_edges.proofs.Apart.{flat_pieces}
use Rattle.gl_edges.proofs.Parts.{between_all, between_shares}
use Rattle.gl_edges.proofs.long_list.edges_of_long_list.Goals as goal

pub returns : goal.returns
returns g c =
    let list = c.args.list.now in
    let thread = c.args.thread in
    let parts = c.in_ok-parts.parts.items in
    let pieces = rw c.as_slice.ensures.value at c.in_ok-pieces.ensures in
    IfOk-weaker c.merged.result _ _
    (λ l is.
    is ∙ ap (λ all. once (flat_map (λ piece. piece) all)) pieces ∙ ap once (flat_pieces (edges_of_places thread list) parts)
    ∙ between_shares thread list 0 parts (length list) c.in_ok-parts.ensures ∙ ap once (between_all thread list (length list) refl))
    c.merged.ensures
