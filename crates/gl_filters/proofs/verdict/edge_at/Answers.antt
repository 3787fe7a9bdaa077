use Rattle.std.proofs.Common.{get_or}
use Rattle.std.proofs.lemmas.Option.{slice_get-get_or}
use Rattle.gl_filters.proofs.Judged.{picked_at}
use Rattle.gl_filters.proofs.verdict.edge_at.Goals as goal

pub returns : goal.returns
returns c =
    picked_at c.args.table.now c.args.cycle.now c.requires.within c.args.i c.requires.there _
    (slice_get-get_or c.args.table.now (get_or c.args.cycle.now c.args.i 0) c.index-table-cycle.result (c.requires.within c.args.i 0 c.requires.there))
