use Rattle.std.proofs.Common.{◌<◌, length, sym, subst, ◌∙◌, arith}
use Rattle.std.proofs.lemmas.Bool.{false≢true}
use Rattle.std.proofs.lemmas.List.{length-map}
use Rattle.gl_segments.specs.Clocks.{is_before}
use Rattle.gl_filters.specs.Picked.{edges_of_table}
use Rattle.gl_sought.proofs.Back.{off_without_way, keeps_more}
use Rattle.gl_sought.proofs.Places.{edge_is}
use Rattle.gl_sought.proofs.Fewer.{stay_out_at, was_set}
use Rattle.gl_ways.proofs.Owned.{owned_apart}
use Rattle.gl_ways.specs.bodies.Owners.{IsOwned}
use Rattle.gl_ways.proofs.through.leave_out_if_far_without.Goals as goal

-- it is too far: none of the edges that go with it is of its owner
pub returns-then-has : goal.returns-then-has
returns-then-has c =
    let s = c.args.sought.now in
    let edges = edges_of_table s.table.now in
    let kept = c.args.kept.now.items in
    let (number, are) = c.requires.numbered in
    let within : c.args.x < length kept = omega (arith, c.requires.there, c.requires.kept.long, length-map s.table.now (λ pair. pair.0)) in
    let keeps = keeps_more (is_before s.order.now) s.mode s.len edges kept c.requires.kept c.args.x within
    (off_without_way (is_before s.order.now) s.mode s.len edges kept c.requires.kept number c.args.ends.now are c.args.labels.now c.args.x
    record {
      far = c.is_far.ensures c.if-is_far.true;
      near = λ i e f d at flag ends_at at_x goes.
          c.requires.grow i e d flag at ends_at
          (λ has_e.
          let is = edge_is s.table.now c.index-sought-x.result c.args.x f c.requires.there at_x in
          let has_f = subst (IsOwned s.mode c.args.owner.now) (sym is) (c.has.ensures c.if-has.true) in
          false≢true (sym (owned_apart (is_before s.order.now) s.mode c.args.owner.now e f has_e has_f) ∙ goes));
    })
    in record {
      goes_on = record { keeps = keeps; stay = stay_out_at kept c.args.x within };
      grow = λ i e d flag at ends_at other. c.requires.grow i e d (was_set kept c.args.x i within flag) at ends_at other;
    }
