use Rattle.std.proofs.Common.{◌++◌, map, take, refl, ap, ◌∙◌}
use Rattle.gl_edges.specs.Guards.{guards_of}
use Rattle.gl_edges.specs.bodies.Gatherers.{pair_for}
use Rattle.gl_edges.proofs.Gathering.{table_nil, table_push, pair_is, table_more, table_all}
use Rattle.gl_edges.proofs.gather.Gatherer.add_each.Goals as goal

pub loop-entry-init : goal.loop-entry-init
loop-entry-init c = record {
  of_thread = refl;
  wants = refl;
  wants_as = refl;
  in_segment = c.segment-self.ensures;
  guarded = c.in_ok-refill.ensures.guards ∙ ap guards_of c.entries-entries.ensures;
  same_seen = refl;
  known = λ pairs is. table_nil _ pairs is;
}

pub loop-entry-preserved : goal.loop-entry-preserved
loop-entry-preserved c =
    let known = c.loop-entry.invariant in
    record {
      of_thread = known.of_thread;
      wants = known.wants;
      wants_as = known.wants_as;
      in_segment = known.in_segment;
      guarded = known.guarded;
      same_seen = known.same_seen;
      known = λ pairs is.
          let f = pair_for c.args.tracker.now c.args.wanted c.args.mode c.args.loc in
          let within = rw c.entries-entries.ensures at c.loop-entry-test.true in
          let item = rw c.entries-entries.ensures at c.entry-item.is in
          let step = table_push c.loop-entry.self.batch c.keep.new.self (pairs ++ map f (take c.loop-entry.entry-index c.args.tracker.now.state.held)) _ c.in_ok-keep.ensures (known.known pairs is) in
          table_more c.keep.new.self pairs f c.args.tracker.now.state.held c.loop-entry.entry-index c.entry-item.result _ within item
          (pair_is c.loop-entry.self.edge c.args.tracker.now c.args.wanted c.args.mode c.args.loc c.entry-item.result _ known.of_thread known.wants known.wants_as known.in_segment known.guarded c.events.ensures)
          step;
    }

pub returns-clause-table : goal.returns-clause-table
returns-clause-table c = λ pairs is.
    let f = pair_for c.args.tracker.now c.args.wanted c.args.mode c.args.loc in
    let all = rw c.entries-entries.ensures at c.loop-entry-test.false in
    table_all _ pairs f c.args.tracker.now.state.held c.loop-entry.entry-index all (c.loop-entry.invariant.known pairs is)
