use Rattle.std.proofs.Common.{◌≡◌, true, sym, subst, ◌∙◌, arith}
use Rattle.std.proofs.lemmas.Option.{same_Some, slice_get_within}
use Rattle.gl_edges.specs.declared.edge.Edge.{Edge}
use Rattle.gl_filters.specs.Picked.{edges_of_table, picked}
use Rattle.gl_edges.specs.Clashes.{guards_clash}
use Rattle.gl_filters.proofs.Gates.{IsLeastGate}
use Rattle.gl_filters.proofs.Judged.{picked_length}
use Rattle.gl_filters.proofs.verdict.guard_at.Goals as goal

pub edge_at-one-requires-clause-there : goal.edge_at-one-requires-clause-there
edge_at-one-requires-clause-there c = omega (arith, slice_get_within (picked (edges_of_table c.args.table.now) c.args.cycle.now) c.args.i c.requires.clash.one c.requires.clash.at_one, picked_length c.args.table.now c.args.cycle.now c.requires.within)

pub edge_at-other-requires-clause-there : goal.edge_at-other-requires-clause-there
edge_at-other-requires-clause-there c = omega (arith, slice_get_within (picked (edges_of_table c.args.table.now) c.args.cycle.now) c.args.j c.requires.clash.other c.requires.clash.at_other, picked_length c.args.table.now c.args.cycle.now c.requires.within)

pub gate_lock-requires-clause-ascending : goal.gate_lock-requires-clause-ascending
gate_lock-requires-clause-ascending c = rw c.as_slice.ensures.locks c.as_slice.ensures.ascending

pub gate_lock-requires-clause-clash : goal.gate_lock-requires-clause-clash
gate_lock-requires-clause-clash c =
    let one_is : c.requires.clash.one ≡ c.edge_at-one.result.now = same_Some _ _ (sym c.requires.clash.at_one ∙ c.edge_at-one.ensures) in
    let other_is : c.requires.clash.other ≡ c.edge_at-other.result.now = same_Some _ _ (sym c.requires.clash.at_other ∙ c.edge_at-other.ensures) in
    rw (c.as_slice.ensures.locks, c.as_slice-2.ensures.locks)
    (subst (λ (x : Edge). guards_clash x.guards c.edge_at-other.result.now.guards ≡ true) one_is
    (subst (λ (x : Edge). guards_clash c.requires.clash.one.guards x.guards ≡ true) other_is c.requires.clash.clashing))

pub returns : goal.returns
returns c = λ e f at_e at_f.
    let e_is : c.edge_at-one.result.now ≡ e = same_Some _ e (sym c.edge_at-one.ensures ∙ at_e) in
    let f_is : c.edge_at-other.result.now ≡ f = same_Some _ f (sym c.edge_at-other.ensures ∙ at_f) in
    subst (λ (x : Edge). IsLeastGate x.guards f.guards c.gate_lock.result) e_is
    (subst (λ (x : Edge). IsLeastGate c.edge_at-one.result.now.guards x.guards c.gate_lock.result) f_is
    (rw (← c.as_slice.ensures.locks, ← c.as_slice-2.ensures.locks) (c.gate_lock.ensures.gate, c.gate_lock.ensures.least)))
