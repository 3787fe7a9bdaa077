use Rattle.std.proofs.Common.{◌≡◌, [], ◌++◌, ◌-◌, map, take, Some, ap, subst, ◌∙◌, arith}
use Rattle.std.specs.Prelude.{OnOk}
use Rattle.std.proofs.lemmas.List.{length-map}
use Rattle.std.proofs.lemmas.Option.{slice_get_read}
use Rattle.gl_segments.specs.Clocks.{is_before}
use Rattle.gl_filters.specs.Picked.{edges_of_table}
use Rattle.gl_index.proofs.Lists.{element_at}
use Rattle.gl_cycles.proofs.PathsGrow.{path_of_one, grow_off}
use Rattle.gl_cycles.proofs.WithinLimits.{limited_ready, all_within}
use Rattle.gl_cycles.proofs.paths.Searcher.grow_from.Goals as goal

pub grow-requires-clause-is_path : goal.grow-requires-clause-is_path
grow-requires-clause-is_path c =
    let s = c.args.self.now in
    let here = element_at (edges_of_table s.table.now) c.args.root (omega (arith, c.requires.there, length-map s.table.now (λ pair. pair.0))) in
    path_of_one (is_before s.order.now) s.mode (edges_of_table s.table.now) c.args.root here.0 here.1

pub grow-requires-clause-ready : goal.grow-requires-clause-ready
grow-requires-clause-ready c = limited_ready c.args.self.now c.limit.result c.limit.ensures.short c.requires.ready

-- the cycles within the edge's limit are all
pub returns : goal.returns
returns c =
    let s = c.args.self.now in
    let same = all_within s c.limit.result c.args.root c.requires.there c.limit.ensures in
    let grown = c.grow.ensures in
    record {
      added = subst (λ all. OnOk c.grow.result (map (λ cycle. cycle.items) c.grow.new.found.items ≡ take s.cap (map (λ cycle. cycle.items) c.args.found.now.items ++ all))) same grown.added;
      stopped = grown.stopped;
    }

-- the edge is in no cycle
pub returns-then-not-index : goal.returns-then-not-index
returns-then-not-index c =
    let s = c.args.self.now in
    let here = element_at (edges_of_table s.table.now) c.args.root (omega (arith, c.requires.there, length-map s.table.now (λ pair. pair.0))) in
    record {
      added = grow_off (is_before s.order.now) s.mode (edges_of_table s.table.now) s.len (s.len - 1) [] s.cap _ c.args.root here.0 (omega (arith, c.requires.some))
          (omega (arith, c.requires.room, length-map c.args.found.now.items (λ cycle. cycle.items))) here.1 (c.requires.ready.kept.left_out c.args.root here.0 here.1
          (slice_get_read s.kept.items _ c.args.root _ s.kept.ok.0 (omega (arith, c.requires.there, c.requires.ready.kept.long, length-map s.table.now (λ pair. pair.0), s.kept.ok.0)) c.index.ensures ∙ ap Some c.if-not-index.true));
      stopped = tt;
    }
