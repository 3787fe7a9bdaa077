use Rattle.std.proofs.Common.{◌≤◌, ◌<◌, length, refl, sym, ap, subst, ◌∙◌, arith}
use Rattle.std.proofs.lemmas.List.{length-map}
use Rattle.gl_segments.specs.Clocks.{is_before}
use Rattle.gl_filters.specs.Picked.{edges_of_table}
use Rattle.gl_index.specs.Sides.{lock_towards}
use Rattle.gl_exclusions.specs.bodies.Gates.{gates_of, IsBarredBy}
use Rattle.gl_sought.proofs.Back.{keeps_more}
use Rattle.gl_sought.proofs.Places.{edge_is}
use Rattle.gl_sought.proofs.Fewer.{stay_out_at}
use Rattle.gl_exclusions.proofs.Gated.{none_barred}
use Rattle.gl_exclusions.proofs.Partnered.{off_stuck}
use Rattle.gl_exclusions.proofs.gates.leave_out_if_barred.Goals as goal

pub returns-then-is_barred_by : goal.returns-then-is_barred_by
returns-then-is_barred_by c =
    let s = c.args.sought.now in
    let edges = edges_of_table s.table.now in
    let kept = c.args.kept.now.items in
    let gates = c.args.gates.now in
    let all : length edges ≤ length s.table.now = omega (arith, length-map s.table.now (λ pair. pair.0)) in
    let within : c.args.x < length kept = omega (arith, c.requires.there, c.requires.kept.long, length-map s.table.now (λ pair. pair.0)) in
    let barred = subst (IsBarredBy _) (c.at.ensures ∙ ap (gates_of gates) c.lock_of.ensures) (c.if-is_barred_by.ensures refl) in
    record {
      keeps = keeps_more (is_before s.order.now) s.mode s.len edges kept c.requires.kept c.args.x within
          (λ e at. off_stuck (is_before s.order.now) s.mode s.len edges kept c.requires.kept c.args.side c.args.x (length s.table.now) e all at
          (none_barred (is_before s.order.now) s.mode c.requires.asks edges kept c.args.side gates c.requires.gated c.args.x (length s.table.now) e at
          (subst (λ d. IsBarredBy d (gates_of gates (lock_towards c.args.side d))) (sym (edge_is s.table.now c.index-sought-x.result c.args.x e c.requires.there at)) barred)));
      stay = stay_out_at kept c.args.x within;
    }
