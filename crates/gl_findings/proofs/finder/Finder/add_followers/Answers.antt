use Rattle.std.proofs.Common.{false, length}
use Rattle.std.proofs.lemmas.List.{length-map}
use Rattle.gl_filters.specs.Picked.{edges_of_table}
use Rattle.gl_index.specs.Sides.{lock_towards}
use Rattle.gl_index.specs.declared.sides.Side.TheVariants.{Leader}
use Rattle.gl_index.proofs.Lists.{element_at, fewer_left}
use Rattle.gl_grounds.specs.Classes.{classes_of}
use Rattle.gl_grounds.specs.Spanning.{GoesOnAt}
use Rattle.gl_grounds.proofs.SpanSteps.{goes_on_all, goes_on_still, keep_on, keep_same, passed_more, passed_none, tells_held}
use Rattle.gl_findings.proofs.finder.Finder.add_followers.Goals as goal

pub loop-next-init : goal.loop-next-init
loop-next-init c =
    let s = c.args.self.now in
    let edges = edges_of_table s.table.now in
    let flags = s.among_models.ground.flags.now in
    let span = c.args.span.now in (
      passed_none (lock_towards Leader) edges flags span.wanted (GoesOnAt s.mode edges (classes_of s.table.now) flags false span c.args.reached.now) c.begin-next.result (c.begin-next.ensures edges flags Leader c.requires.ready.held_by),
      keep_same c.args.reached.now,
    )

pub loop-next-smaller : goal.loop-next-smaller
loop-next-smaller c =
    let s = c.args.self.now in
    let edges = edges_of_table s.table.now in
    let flags = s.among_models.ground.flags.now in
    let next = rw c.in-Some.is at c.loop-next.invariant.0 in
    let there = element_at edges c.in-Some.j next.shares.0 in
    fewer_left (length edges) (length s.table.now) c.loop-next.next c.in-Some.j c.after-next.result (length-map s.table.now (λ pair. pair.0)) c.in-Some.is next.shares.0
    (c.after-next.ensures edges flags Leader there.0 c.requires.ready.held_by there.1).from

pub loop-next-preserved : goal.loop-next-preserved
loop-next-preserved c =
    let s = c.args.self.now in
    let edges = edges_of_table s.table.now in
    let classes = classes_of s.table.now in
    let flags = s.among_models.ground.flags.now in
    let span = c.args.span.now in
    let j = c.in-Some.j in
    let old = c.loop-next.reached in
    let new = c.add_with.new.reached in
    let next = rw c.in-Some.is at c.loop-next.invariant.0 in
    let there = element_at edges j next.shares.0 in (
      passed_more (lock_towards Leader) edges flags span.wanted (GoesOnAt s.mode edges classes flags false span old) (GoesOnAt s.mode edges classes flags false span new) j there.0 c.after-next.result
          (goes_on_still s.mode edges classes flags false span old new c.in_ok-add_with.ensures.keep.stay) there.1 next (c.in_ok-add_with.ensures.added false there.0) (c.after-next.ensures edges flags Leader there.0 c.requires.ready.held_by there.1),
      keep_on c.args.reached.now old new c.loop-next.invariant.1 c.in_ok-add_with.ensures.keep,
    )

pub returns-clause-added : goal.returns-clause-added
returns-clause-added c =
    let s = c.args.self.now in
    let span = c.args.span.now in
    goes_on_all s.mode (edges_of_table s.table.now) (classes_of s.table.now) s.among_models.ground.flags.now false span (lock_towards Leader) span.wanted c.loop-next.reached (λ class place f goes round. tells_held span f goes) (rw c.in_default.is at c.loop-next.invariant.0)
