use Rattle.std.proofs.Common.{[], ◌∷◌, ◌++◌, ◌∙◌, refl, sym, ap, map}
use Rattle.std.specs.Option.{option_map_or}
use Rattle.std.proofs.lemmas.Option.{slice_get_read, slice_get_past}
use Rattle.std.proofs.lemmas.List.{append-nil}
use Rattle.serde_json.specs.View.{view}
use Rattle.gl_report.specs.TreeV1.{edge_tree_v1}
use Rattle.gl_report.proofs.Trees.{pushed_view}
use Rattle.gl_report.proofs.tree_v1.push_edge.Goals as goal

pub returns : goal.returns
returns c =
    let at = slice_get_read c.args.table.now _ c.args.position c.index-table-position.result refl c.if-position-table.false c.index-table-position.is in
    pushed_view view _ _ _ _ c.in_ok-push.ensures.items c.in_ok-value.ensures
    ∙ ap (λ o. map view c.args.values.now.items ++ option_map_or (λ pair. edge_tree_v1 c.args.names.now pair ∷ []) o []) (sym at)

pub returns-then-position-table : goal.returns-then-position-table
returns-then-position-table c =
    sym (ap (λ o. map view c.args.values.now.items ++ option_map_or (λ pair. edge_tree_v1 c.args.names.now pair ∷ []) o []) (slice_get_past c.args.table.now c.args.position c.if-position-table.true) ∙ append-nil _)
