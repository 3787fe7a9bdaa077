use Rattle.std.proofs.Common.{◌≡◌, Some, sym, ap, ◌∙◌}
use Rattle.std.specs.Prelude.{slice_get}
use Rattle.std.specs.Option.{option_map}
use Rattle.std.proofs.lemmas.Option.{slice_get-get_or, slice_get-map, get_or_from_slice_get}
use Rattle.gl_filters.specs.Picked.{edges_of_table}
use Rattle.gl_pruning.specs.bodies.Shares.{share_in, IsInShare}
use Rattle.gl_pruning.proofs.InShares.{one_added}
use Rattle.gl_pruning.proofs.shares.add_to_share.Goals as goal

-- the edge is one of the share
pub returns : goal.returns
returns c =
    let table = c.args.sought.now.table.now in
    let shares = c.args.shares.now in
    let position = c.args.position in
    let here = slice_get-get_or table position c.index-sought-position.result c.requires.there in
    let at : slice_get (edges_of_table table) position ≡ Some c.in_ok-edge.edge = slice_get-map (λ pair. pair.0) table position ∙ ap (option_map (λ pair. pair.0)) here ∙ ap Some (sym c.in_ok-edge.ensures.same) in
    let in_share : IsInShare shares c.args.number position = λ d at_d.
    let is_d = c.index-else-not-index.ensures ∙ get_or_from_slice_get shares.ends.items position d c.index-else-not-index.result.now at_d in
    ap (λ x. share_in shares x.held) (sym is_d) ∙ sym c.share.ensures ∙ c.if-share-number.false in
    one_added (edges_of_table table) shares c.args.number position c.args.share.now c.requires.edges c.in_ok-edge.edge _ _ at in_share c.in_ok-push.ensures.items c.in_ok-push-2.ensures.items
