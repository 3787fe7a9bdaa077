use Rattle.std.proofs.Common.{ap, ◌∙◌}
use Rattle.gl_engine.specs.Dealing.{made_by}
use Rattle.gl_engine.proofs.Dealt.{made_by_none}
use Rattle.gl_engine.proofs.Opening.{collector_new}
use Rattle.gl_engine.proofs.session.open.Goals as goal

pub invariant_of-collector : goal.invariant_of-collector
invariant_of-collector c =
    rw (c.in_ok-intake.ensures.limits, c.in_ok-intake.ensures.empty, made_by_none)
    (collector_new c.args.session c.args.limits.now _ c.in_ok-recorders.inputs.items c.in_ok-recorders.ensures.fresh c.open_lanes.ensures.range)

pub returns : goal.returns
returns c =
    let fresh = c.in_ok-recorders.ensures.fresh in
    let empty = c.in_ok-intake.ensures.empty in
    let none = ap made_by empty ∙ made_by_none in
    record {
      count = fresh.count;
      fresh = fresh.fresh;
      collects = λ i. record { session = c.args.session; limits = c.args.limits.now; inputs = fresh.ends i; stream = empty i; made = none i };
    }
