use Rattle.std.proofs.Common.{get_or, subst}
use Rattle.gl_segments.specs.Clocks.{is_before}
use Rattle.gl_filters.specs.Picked.{edges_of_table}
use Rattle.gl_kinds.specs.bodies.Gaps.{IsHopeless, IsNarrowed}
use Rattle.gl_sought.proofs.Places.{from_not_true}
use Rattle.gl_kinds.proofs.Closing.{none_from_gap}
use Rattle.gl_index.proofs.Tables.{edge_at}
use Rattle.gl_kinds.proofs.rounds.Rounds.is_hopeless.Goals as goal

pub returns-clause-none : goal.returns-clause-none
returns-clause-none c = λ yes.
    let r = c.args.self.now in
    let s = r.sought in
    let rest = c.in_ok-rest.rest.items in
    none_from_gap (is_before s.order.now) s.mode r.grain s.len (edges_of_table s.table.now) r.flags.items c.args.models.now c.in_ok-alive.alive.items rest c.args.dead.now c.args.root (get_or s.table.now c.args.root c.index-self-root.result).0
    (edge_at s.table.now c.args.root c.index-self-root.result c.requires.there) c.requires.known.all c.requires.known.none_through c.in_ok-alive.ensures.all
    (subst (λ alive. IsNarrowed (is_before s.order.now) s.mode r.grain (edges_of_table s.table.now) alive c.args.root rest) c.deref.ensures.value c.in_ok-rest.ensures.narrowed)
    (subst (λ g. IsHopeless (is_before s.order.now) s.mode r.grain s.len (edges_of_table s.table.now) r.flags.items g rest) c.of-gap.ensures
    (subst (IsHopeless (is_before s.order.now) s.mode r.grain s.len (edges_of_table s.table.now) r.flags.items c.of-gap.result) c.deref-2.ensures.value (c.in_ok-may.ensures.none (from_not_true _ yes))))
