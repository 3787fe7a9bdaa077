use Rattle.std.proofs.Common.{◌<◌, length, refl, arith}
use Rattle.gl_segments.specs.Clocks.{is_before}
use Rattle.gl_filters.specs.Picked.{edges_of_table}
use Rattle.gl_sought.proofs.Back.{off_without_way, keeps_more}
use Rattle.gl_sought.proofs.Fewer.{stay_out_at, tells_one}
use Rattle.std.proofs.lemmas.List.{length-map}
use Rattle.gl_ways.proofs.no_way.leave_out_at.Goals as goal

pub returns : goal.returns
returns c =
    let s = c.args.sought.now in
    let (number, are) = c.requires.numbered in
    let within : c.args.x < length c.args.kept.now.items = omega (arith, c.requires.there, c.requires.kept.long, length-map s.table.now (λ pair. pair.0)) in
    let keeps = keeps_more (is_before s.order.now) s.mode s.len (edges_of_table s.table.now) c.args.kept.now.items c.requires.kept c.args.x within
    (off_without_way (is_before s.order.now) s.mode s.len (edges_of_table s.table.now) c.args.kept.now.items c.requires.kept number c.args.ends.now are c.deref-3.result.now c.args.x
    (rw c.deref-2.ensures.value at (c.if-not-is_without_way.ensures refl)))
    in record {
      goes_on = record { keeps = keeps; stay = stay_out_at c.args.kept.now.items c.args.x within };
      any = tells_one c.args.kept.now.items c.args.x within c.index.result.now c.index.ensures c.if-not-index.false;
    }
