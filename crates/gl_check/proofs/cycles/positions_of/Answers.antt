use Rattle.std.proofs.Common.{length, refl, sym, subst, inr, map, take, ◌+◌}
use Rattle.std.proofs.lemmas.List.{take-map}
use Rattle.serde_json.specs.View.{view}
use Rattle.gl_check.specs.Edges.{NameEdges, NamesEdge}
use Rattle.gl_check.specs.Shape.{is_member}
use Rattle.gl_check.proofs.Shapes.{all_at, mapped_at, zip_more}
use Rattle.gl_check.proofs.cycles.positions_of.Goals as goal

pub position_of-requires : goal.position_of-requires
position_of-requires c = all_at (is_member c.args.format (length c.args.table.now)) view c.args.edges.now c.loop-k.k c.index-edges-k.result c.requires c.loop-k-test.true c.index-edges-k.is

pub returns-in-None-clause-fault : goal.returns-in-None-clause-fault
returns-in-None-clause-fault c =
    let none = rw c.in-None.is at c.in_ok-position.ensures in
    inr (
      c.loop-k.k,
      refl,
      none.0,
      record {
        d = view c.index-edges-k.result;
        there = mapped_at view c.args.edges.now c.loop-k.k c.index-edges-k.result c.loop-k-test.true c.index-edges-k.is;
        strange = none.1;
        positions = c.loop-k.positions.items;
        before = subst (λ ds. NameEdges c.args.format c.args.names.now c.args.table.now ds c.loop-k.positions.items) (sym (take-map view c.loop-k.k c.args.edges.now)) c.loop-k.invariant;
      },
    )

pub loop-k-preserved : goal.loop-k-preserved
loop-k-preserved c =
    subst (NameEdges c.args.format c.args.names.now c.args.table.now (map view (take (c.loop-k.k + 1) c.args.edges.now))) (sym c.in_ok-push-in-Some.ensures.items)
    (zip_more (NamesEdge c.args.format c.args.names.now c.args.table.now) view c.args.edges.now c.loop-k.positions.items c.loop-k.k c.index-edges-k.result c.in-Some.position c.loop-k-test.true c.index-edges-k.is c.loop-k.invariant (rw c.in-Some.is at c.in_ok-position.ensures))
