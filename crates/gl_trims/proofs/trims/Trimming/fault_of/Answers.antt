use Rattle.std.proofs.Common.{◌≡◌, not, length, sym, ap, subst, ◌∙◌, arith}
use Rattle.std.specs.Bool.{Decides}
use Rattle.std.specs.List.{list_any}
use Rattle.std.specs.Prelude.{slice_index_or}
use Rattle.std.proofs.lemmas.Bool.{false≢true}
use Rattle.std.proofs.lemmas.List.{length-map}
use Rattle.std.proofs.lemmas.Option.{slice_get-get_or, slice_get_within}
use Rattle.gl_segments.specs.Clocks.{is_before}
use Rattle.gl_filters.specs.Picked.{edges_of_table}
use Rattle.gl_trims.specs.Trims.{IsRemovalFault, IsStuck}
use Rattle.gl_trims.specs.bodies.Trimming.{IsFlagged}
use Rattle.gl_trims.proofs.Accepting.{fault_at_end, fault_here, flags_next, removal_more, removal_none, whole_at_end}
use Rattle.gl_trims.proofs.Removing.{flags_none}
use Rattle.gl_trims.proofs.trims.Trimming.fault_of.Goals as goal

-- at first none is gone
pub loop-n-init : goal.loop-n-init
loop-n-init c =
    let s = c.args.self.now in
    let edges = edges_of_table s.table.now in
    record {
      flags = flags_none (length edges) c.in_ok-gone.gone.items (length s.table.now) (sym (length-map s.table.now (λ pair. pair.0))) (c.in_ok-gone.ensures.items_if_clones_equal (λ y is. is));
      in_order = removal_none (is_before s.order.now) s.mode edges;
    }

-- the next one can't go
pub returns-then-not-may_go : goal.returns-then-not-may_go
returns-then-not-may_go c =
    let s = c.args.self.now in
    let edges = edges_of_table s.table.now in
    let before = is_before s.order.now in
    let i = slice_index_or c.args.removed.now c.loop-n.n 0 in
    let tells : Decides c.may_go.result (IsStuck before s.mode edges (IsFlagged c.loop-n.gone.items) i) = rw c.deref.ensures.value at c.may_go.ensures in
    fault_here before s.mode edges c.loop-n.gone.items c.args.removed.now c.loop-n.n c.loop-n.invariant.flags i (slice_get-get_or c.args.removed.now c.loop-n.n 0 c.loop-n-test.true) c.loop-n.invariant.in_order
    (λ stuck. false≢true (sym c.if-not-may_go.true ∙ tells.1 stuck))

pub index_mut-requires : goal.index_mut-requires
index_mut-requires c =
    let s = c.args.self.now in
    let edges = edges_of_table s.table.now in
    let before = is_before s.order.now in
    let i = slice_index_or c.args.removed.now c.loop-n.n 0 in
    let tells : Decides c.may_go.result (IsStuck before s.mode edges (IsFlagged c.loop-n.gone.items) i) = rw c.deref.ensures.value at c.may_go.ensures in
    let stuck = tells.0 c.if-not-may_go.false in
    omega (arith, slice_get_within edges i stuck.edge stuck.stands, c.loop-n.invariant.flags.long, c.loop-n.gone.ok.0)

-- it goes
pub loop-n-preserved : goal.loop-n-preserved
loop-n-preserved c =
    let s = c.args.self.now in
    let edges = edges_of_table s.table.now in
    let before = is_before s.order.now in
    let i = slice_index_or c.args.removed.now c.loop-n.n 0 in
    let tells : Decides c.may_go.result (IsStuck before s.mode edges (IsFlagged c.loop-n.gone.items) i) = rw c.deref.ensures.value at c.may_go.ensures in
    let stuck = tells.0 c.if-not-may_go.false in
    let at = slice_get-get_or c.args.removed.now c.loop-n.n 0 c.loop-n-test.true in
    record {
      flags = flags_next before s.mode edges c.loop-n.gone.items c.args.removed.now c.loop-n.n c.loop-n.invariant.flags i c.loop-n-test.true at (slice_get_within edges i stuck.edge stuck.stands);
      in_order = removal_more before s.mode edges c.loop-n.gone.items c.args.removed.now c.loop-n.n c.loop-n.invariant.flags i c.loop-n-test.true at c.loop-n.invariant.in_order stuck;
    }

-- the order ends, and an edge is left
pub returns-then-is_any_left : goal.returns-then-is_any_left
returns-then-is_any_left c =
    let s = c.args.self.now in
    let edges = edges_of_table s.table.now in
    let before = is_before s.order.now in
    let end : c.loop-n.n ≡ length c.args.removed.now = omega (arith, c.loop-n-test.false, c.loop-n.auto.n-end) in
    let some = ap (list_any not) (sym c.deref-2.ensures.value) ∙ sym c.is_any_left.ensures ∙ c.if-is_any_left.true in
    subst (IsRemovalFault before s.mode edges c.args.removed.now) end (fault_at_end before s.mode edges c.loop-n.gone.items c.args.removed.now c.loop-n.n c.loop-n.invariant.flags end c.loop-n.invariant.in_order some)

-- or none is
pub returns : goal.returns
returns c =
    let s = c.args.self.now in
    let edges = edges_of_table s.table.now in
    let end : c.loop-n.n ≡ length c.args.removed.now = omega (arith, c.loop-n-test.false, c.loop-n.auto.n-end) in
    let none = ap (list_any not) (sym c.deref-2.ensures.value) ∙ sym c.is_any_left.ensures ∙ c.if-is_any_left.false in
    whole_at_end (is_before s.order.now) s.mode edges c.loop-n.gone.items c.args.removed.now c.loop-n.n c.loop-n.invariant.flags end c.loop-n.invariant.in_order none
