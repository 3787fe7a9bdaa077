use Rattle.std.proofs.Common.{◌<◌, length, arith}
use Rattle.gl_segments.specs.Clocks.{is_before}
use Rattle.gl_filters.specs.Picked.{edges_of_table}
use Rattle.gl_sought.proofs.Back.{off_without_way, keeps_more}
use Rattle.gl_sought.proofs.Fewer.{stay_out_at, was_set}
use Rattle.std.proofs.lemmas.List.{length-map}
use Rattle.gl_ways.proofs.far.leave_out_if_far.Goals as goal

-- it is too far, whichever edges go with it
pub returns-then-is_far : goal.returns-then-is_far
returns-then-is_far c =
    let s = c.args.sought.now in
    let (number, are) = c.requires.numbered in
    let within : c.args.x < length c.args.kept.now.items = omega (arith, c.requires.there, c.requires.kept.long, length-map s.table.now (λ pair. pair.0)) in
    let keeps = keeps_more (is_before s.order.now) s.mode s.len (edges_of_table s.table.now) c.args.kept.now.items c.requires.kept c.args.x within
    (off_without_way (is_before s.order.now) s.mode s.len (edges_of_table s.table.now) c.args.kept.now.items c.requires.kept number c.args.ends.now are c.args.labels.now c.args.x
    record { far = c.is_far.ensures c.if-is_far.true; near = λ i e f d at flag ends_at at_x goes. c.requires.grow i d flag ends_at })
    in record {
      goes_on = record { keeps = keeps; stay = stay_out_at c.args.kept.now.items c.args.x within };
      grow = λ i d flag ends_at. c.requires.grow i d (was_set c.args.kept.now.items c.args.x i within flag) ends_at;
    }
