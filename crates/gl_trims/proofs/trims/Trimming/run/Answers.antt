use Rattle.std.proofs.Common.{◌<◌, length, sym, subst}
use Rattle.std.proofs.lemmas.List.{length-map}
use Rattle.gl_segments.specs.Clocks.{is_before}
use Rattle.gl_filters.specs.Picked.{edges_of_table}
use Rattle.gl_trims.specs.Trims.{IsFirstStuck, IsTrimOrder}
use Rattle.gl_trims.specs.bodies.Trimming.{IsFlagged, AreFlagsOf, AreSettled}
use Rattle.gl_trims.proofs.Removing.{left, flags_none, awake_all, order_none, fewer, was_left, done_at_end, stays_at_end}
use Rattle.gl_trims.proofs.trims.Trimming.run.Goals as goal

-- at first none is gone, and all wait
pub loop-removed-init : goal.loop-removed-init
loop-removed-init c =
    let s = c.args.self.now in
    let edges = edges_of_table s.table.now in
    let before = is_before s.order.now in
    let gone = c.in_ok-gone.gone.items in
    let none = c.new-removed.ensures.items in
    record {
      flags = subst (AreFlagsOf (length edges) gone) (sym none) (flags_none (length edges) gone (length s.table.now) (sym (length-map s.table.now (λ pair. pair.0))) (c.in_ok-gone.ensures.items_if_clones_equal (λ y is. is)));
      hints = c.in_ok-sides.ensures _;
      awake = awake_all gone (length s.table.now) _ c.all-waiting.result c.all-waiting.ensures.waits c.all-waiting.ensures.earlier c.all-waiting.ensures.next;
      in_order = subst (IsTrimOrder before s.mode edges) (sym none) (order_none before s.mode edges);
    }

-- the first that is stuck goes
pub take_away-requires-clause-first : goal.take_away-requires-clause-first
take_away-requires-clause-first c = rw c.deref.ensures.value at (rw c.in-Some.is at c.in_ok-i.ensures.found)

pub take_away-requires-clause-taken : goal.take_away-requires-clause-taken
take_away-requires-clause-taken c =
    let had = c.loop-removed.invariant in
    let is = c.deref.ensures.value in
    record {
      flags = had.flags;
      hints = rw is at c.in_ok-i.ensures.hints;
      awake = rw is at c.in_ok-i.ensures.awake;
      in_order = had.in_order;
    }

-- one edge less is left
pub loop-removed-smaller : goal.loop-removed-smaller
loop-removed-smaller c =
    let s = c.args.self.now in
    let edges = edges_of_table s.table.now in
    let gone = c.loop-removed.gone.items in
    let first : IsFirstStuck (is_before s.order.now) s.mode edges (IsFlagged gone) c.in-Some.i = rw c.deref.ensures.value at (rw c.in-Some.is at c.in_ok-i.ensures.found) in
    subst (λ flags. left flags < left gone) (sym c.in_ok-take_away.ensures.flag) (fewer gone c.in-Some.i (was_left (is_before s.order.now) s.mode edges gone c.loop-removed.removed.items c.loop-removed.invariant.flags c.in-Some.i first.0))

pub loop-removed-preserved : goal.loop-removed-preserved
loop-removed-preserved c = c.in_ok-take_away.ensures.taken

-- none is stuck any more
pub returns : goal.returns
returns c =
    let s = c.args.self.now in
    let edges = edges_of_table s.table.now in
    let before = is_before s.order.now in
    let gone = c.loop-removed.gone.items in
    let had = c.loop-removed.invariant in
    let all : AreSettled before s.mode edges gone (length edges) =
    subst (AreSettled before s.mode edges gone) (sym (length-map s.table.now (λ pair. pair.0))) (rw c.deref.ensures.value at (rw c.in_default.is at c.in_ok-i.ensures.found)) in
    record {
      in_order = had.in_order;
      done = done_at_end before s.mode edges gone c.loop-removed.removed.items had.flags all;
      stays = stays_at_end before s.mode edges gone c.loop-removed.removed.items had.flags all;
      rest = c.in_ok-kept.ensures edges c.loop-removed.removed.items (subst (λ gone. AreFlagsOf (length edges) gone c.loop-removed.removed.items) (sym c.deref-2.ensures.value) had.flags);
    }
