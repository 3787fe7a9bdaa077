use Rattle.std.proofs.Common.{◌≤◌, ◌<◌, length, arith}
use Rattle.std.proofs.lemmas.List.{length-map}
use Rattle.gl_segments.specs.Clocks.{is_before}
use Rattle.gl_filters.specs.Picked.{edges_of_table}
use Rattle.gl_sought.proofs.Back.{keeps_more}
use Rattle.gl_sought.proofs.Fewer.{stay_out_at, tells_one}
use Rattle.gl_exclusions.proofs.Partnered.{off_stuck}
use Rattle.gl_exclusions.proofs.partners.leave_out_if_stuck.Goals as goal

-- none may stand beside it
pub returns-in-None-clause-goes_on : goal.returns-in-None-clause-goes_on
returns-in-None-clause-goes_on c =
    let s = c.args.sought.now in
    let edges = edges_of_table s.table.now in
    let kept = c.args.kept.now.items in
    let all : length edges ≤ length s.table.now = omega (arith, length-map s.table.now (λ pair. pair.0)) in
    let within : c.args.x < length kept = omega (arith, c.requires.there, c.requires.kept.long, length-map s.table.now (λ pair. pair.0)) in
    record {
      keeps = keeps_more (is_before s.order.now) s.mode s.len edges kept c.requires.kept c.args.x within
          (λ e at. off_stuck (is_before s.order.now) s.mode s.len edges kept c.requires.kept c.args.side c.args.x (length s.table.now) e all at (rw c.deref-2.ensures.value at c.next_beside.ensures c.in-None.is));
      stay = stay_out_at kept c.args.x within;
    }

pub returns-in-None-clause-any : goal.returns-in-None-clause-any
returns-in-None-clause-any c =
    let s = c.args.sought.now in
    let within : c.args.x < length c.args.kept.now.items = omega (arith, c.requires.there, c.requires.kept.long, length-map s.table.now (λ pair. pair.0)) in
    tells_one c.args.kept.now.items c.args.x within c.index.result.now c.index.ensures c.if-not-index.false
