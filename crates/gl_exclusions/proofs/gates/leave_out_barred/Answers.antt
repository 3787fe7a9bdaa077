use Rattle.gl_filters.specs.Picked.{edges_of_table}
use Rattle.gl_index.specs.Sides.{opposite}
use Rattle.gl_sought.proofs.Fewer.{goes_on_further}
use Rattle.gl_exclusions.proofs.Gated.{gated_on}
use Rattle.gl_exclusions.proofs.gates.leave_out_barred.Goals as goal

-- one edge more was looked at
pub loop-x-preserved : goal.loop-x-preserved
loop-x-preserved c =
    let s = c.args.sought.now in
    let was = c.loop-x.invariant in
    let is = c.leave_out_if_barred.ensures in
    record {
      goes_on = goes_on_further s c.args.kept.now.items c.loop-x.kept.items c.leave_out_if_barred.new.kept.items was.goes_on is;
      gated = gated_on (opposite c.args.side) (edges_of_table s.table.now) c.loop-x.kept.items c.leave_out_if_barred.new.kept.items c.in_ok-gates.gates is.stay was.gated;
    }
