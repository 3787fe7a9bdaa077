use Rattle.std.proofs.Common.{rules, map, refl, sym, ◌∙◌, subst}
use Rattle.gl_engine.specs.Collecting.{Collecting}
use Rattle.gl_engine.specs.Dealing.{made_by}
use Rattle.gl_engine.specs.Gathering.{Gathering, HasRunThrough}
use Rattle.gl_engine.specs.bodies.Whole.{lane_of}
use Rattle.gl_engine.proofs.Ending.{run_through}
use Rattle.gl_engine.proofs.Running.{as_long, lanes_shown, unsent_dealt, gathered_all}
use Rattle.gl_engine.proofs.Sides.{collecting_of}
use Rattle.gl_engine.proofs.collector.Collector.run_into.Goals as goal

pub collect_all-gathered-requires : goal.collect_all-gathered-requires
collect_all-gathered-requires g c = record {
  begins = record {
    all = search rules;
    collector = search rules;
    making_is = search rules;
    shards = c.requires.unused.shards;
    unsent = unsent_dealt c.args.outlets.items c.requires.unused.unsent;
  };
}

pub invariant_of-result : goal.invariant_of-result
invariant_of-result g c =
    rw c.collect_all-gathered.ensures.goes_on.limits
    (gathered_all c.self.inside.limits c.self.inside.intake.limits c.self.invariant.same_limits c.self.inside.inputs.items c.collect_all-gathered.new.inputs.items c.self.invariant.inputs_are.count c.collect_all-gathered.ensures.goes_on.lanes
    c.collect_all-gathered.new.intake.stream c.args.outlets.items c.collect_all-gathered.new.outlets.items c.end_all-gone.new.sent.items c.args.making.spares c.requires.unused.shards.some c.collect_all-gathered.ensures.goes_on.feeds
    c.collect_all-gathered.result c.end_all-gone.result c.collect_all-gathered.ensures.goes_on.keeps c.collect_all-gathered.ensures.ended c.end_all-gone.ensures.sent c.collect_all-gathered.ensures.goes_on.blamed c.first_fault.result c.first_fault.ensures.first c.first_fault.ensures.none)

pub returns : goal.returns
returns g c =
    let went = c.collect_all-gathered.ensures.goes_on in
    let before = c.self.inside.inputs.items in
    let after = c.collect_all-gathered.new.inputs.items in
    let gathered : Gathering = record {
      session = c.self.inside.session;
      limits = c.self.inside.limits;
      lanes = map lane_of after;
      stream = c.collect_all-gathered.new.intake.stream;
      sent = c.end_all-gone.new.sent.items;
      fault = c.first_fault.result;
    } in
    let stream = c.self.inside.intake.stream in
    subst (λ (s : Collecting). HasRunThrough c.args.making.spares s c.args.outlets.items gathered) c.self.view_is
    (run_through (collecting_of c.self.inside.session c.self.inside.limits before stream (made_by stream)) gathered after c.args.outlets.items c.collect_all-gathered.new.outlets.items went.feeds
    c.self.inside.intake.limits c.self.invariant.same_limits c.args.making.spares
    (record { session = refl; limits = refl; lanes = went.lanes ∙ sym (lanes_shown before); grown = went.grown })
    (as_long lane_of lane_of after before went.lanes ∙ c.self.invariant.inputs_are.count)
    c.collect_all-gathered.result c.end_all-gone.result c.first_fault.ensures.first went.keeps c.collect_all-gathered.ensures.ended went.blamed went.stopped c.end_all-gone.ensures.ended)
