use Rattle.std.proofs.Common.{[], ◌++◌, ap, ◌∙◌}
use Rattle.std.specs.Option.{option_map_or}
use Rattle.std.specs.Prelude.{slice_get}
use Rattle.gl_report.specs.Text.{counts_line, edge_line}
use Rattle.gl_report.proofs.Parts.{edge_and_counts, two_parts}
use Rattle.gl_report.proofs.printing.put_edge_text.Goals as goal

pub returns : goal.returns
returns c = λ listing same.
    let lines = option_map_or (edge_line c.args.names.now) (slice_get c.args.table.now c.args.position) [] in
    two_parts _ _ _ _ _ _ c.in_ok-put_edge.ensures c.in_ok-put_counts.ensures
    (ap (λ counts. lines ++ option_map_or counts_line (slice_get counts c.args.position) []) same ∙ edge_and_counts listing c.args.names.now c.args.table.now c.args.position)
