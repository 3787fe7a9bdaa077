use Rattle.std.proofs.Common.{◌<◌, false, length, sym, subst, arith}
use Rattle.std.proofs.lemmas.List.{length-map}
use Rattle.gl_segments.specs.Clocks.{is_before}
use Rattle.gl_filters.specs.Picked.{edges_of_table}
use Rattle.gl_loops.specs.Alone.{IsAlone}
use Rattle.gl_sought.specs.OffCycles.{IsOffCycles}
use Rattle.gl_index.proofs.Lists.{set_here}
use Rattle.gl_sought.proofs.Back.{keeps_more}
use Rattle.gl_sought.proofs.Places.{edge_is}
use Rattle.gl_sought.proofs.Fewer.{stay_out_at, tells_one}
use Rattle.gl_loops.proofs.alone.leave_out_if_alone.Goals as goal

pub returns : goal.returns
returns c =
    let s = c.args.sought.now in
    let within : c.args.x < length c.args.kept.now.items = omega (arith, c.requires.there, c.requires.kept.long, length-map s.table.now (λ pair. pair.0)) in
    let stays = stay_out_at c.args.kept.now.items c.args.x within in
    let keeps = keeps_more (is_before s.order.now) s.mode s.len (edges_of_table s.table.now) c.args.kept.now.items c.requires.kept c.args.x within
    (λ e at. subst (IsOffCycles (is_before s.order.now) s.mode s.len (edges_of_table s.table.now)) (sym (edge_is s.table.now c.index-sought-x.result c.args.x e c.requires.there at)) (c.is_alone.ensures.off c.if-not-is_alone.false))
    in record {
      goes_on = record { keeps = keeps; stay = stays };
      any = tells_one c.args.kept.now.items c.args.x within c.index.result.now c.index.ensures c.if-not-index.false;
      alone = λ before e know at alone. set_here c.args.kept.now.items c.args.x false within;
    }

-- it isn't alone
pub returns-then-not-is_alone-clause-alone : goal.returns-then-not-is_alone-clause-alone
returns-then-not-is_alone-clause-alone c = λ before e know at alone.
    let table = c.args.sought.now.table.now in
    let same = edge_is table c.index-sought-x.result c.args.x e c.requires.there at in
    let told = c.is_alone.ensures.alone before know (subst (IsAlone (edges_of_table table) before) same alone) in
    absurd (cc (told, c.if-not-is_alone.true))
