use Rattle.std.proofs.Common.{◌∙◌}
use Rattle.gl_segments.specs.Clocks.{is_before}
use Rattle.gl_filters.specs.Test.{is_compatible}
use Rattle.gl_filters.proofs.NumberedSets.{set_at, edge_at}
use Rattle.gl_filters.proofs.pairs.compatible_at.Goals as goal

pub compatible_by-requires-clause-one : goal.compatible_by-requires-clause-one
compatible_by-requires-clause-one c =
    rw c.entries-entries.ensures.pairs (set_at c.args.edges.now c.args.sets.now c.args.i c.id-a.result c.index-entries-i.result c.requires.sets c.requires.one c.id-a.ensures)

pub compatible_by-requires-clause-other : goal.compatible_by-requires-clause-other
compatible_by-requires-clause-other c =
    rw c.entries-entries.ensures.pairs (set_at c.args.edges.now c.args.sets.now c.args.j c.id-b.result c.index-entries-j.result c.requires.sets c.requires.other c.id-b.ensures)

pub returns : goal.returns
returns c = λ e f at_e at_f.
    let pairs = c.args.edges.now in
    let is_e = edge_at pairs c.args.i c.index-entries-i.result e c.requires.one at_e in
    let is_f = edge_at pairs c.args.j c.index-entries-j.result f c.requires.other at_f in
    (rw c.entries-entries.ensures.pairs at c.compatible_by.ensures) ∙ (λ k. is_compatible (is_before c.args.order.now) c.args.mode (is_e k) (is_f k))
