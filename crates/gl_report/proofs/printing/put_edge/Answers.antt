use Rattle.std.proofs.Common.{[], refl, sym, ap}
use Rattle.std.specs.Option.{option_map_or}
use Rattle.std.proofs.lemmas.Option.{slice_get_read}
use Rattle.gl_report.specs.Text.{edge_line}
use Rattle.gl_report.proofs.Parts.{two_parts}
use Rattle.gl_report.proofs.printing.put_edge.Goals as goal

pub returns : goal.returns
returns c =
    let names = c.args.names.now in
    let pair = c.index-table-position.result in
    let at = slice_get_read c.args.table.now _ c.args.position pair refl c.if-position-table.false c.index-table-position.is in
    two_parts _ _ _ _ _ _ c.in_ok-put_held.ensures c.in_ok-put_wanted.ensures (ap (λ o. option_map_or (edge_line names) o []) (sym at))
