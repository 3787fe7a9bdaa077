use Rattle.std.proofs.Common.{◌≤◌, ◌<◌, length, None, sym, subst, arith}
use Rattle.std.proofs.lemmas.List.{length-map}
use Rattle.gl_world.specs.Machine.{State}
use Rattle.gl_world.specs.Keeping.{Keeper}
use Rattle.gl_world.proofs.Errors.{on_err}
use Rattle.gl_world.proofs.Worlds.{state_of, pull_unknown, pull_known, pull_grows, lane_at, lane_is}
use Rattle.gl_world.proofs.world.World.pull.Goals as goal

pub returns-then-index-len-clause-moved : goal.returns-then-index-len-clause-moved
returns-then-index-len-clause-moved c =
    let strange : length c.args.self.now.lanes ≤ c.args.thread =
    subst (λ (s : State). length s.lanes ≤ c.args.thread) c.self.view_is (omega (arith, c.if-index-len.true, c.len.ensures, c.number-index.ensures, length-map c.self.inside.parts.items (λ (k : Keeper). k.lane))) in
    pull_unknown c.args.self.now c.args.thread strange

pub collect-requires-clause-front : goal.collect-requires-clause-front
collect-requires-clause-front c = λ lane found.
    let here = rw c.number-index.ensures at c.index.ensures in
    let within : c.args.thread < length c.self.inside.parts.items = omega (arith, c.if-index-len.false, c.len.ensures, c.number-index.ensures) in
    let is = lane_is c.self.inside.limits c.self.inside.dispatcher c.self.inside.parts.items c.self.inside.intake.stream c.self.inside.intake.limits c.self.invariant c.args.thread c.index.result.now within here
    c.args.self.now c.self.view_is lane found in
    rw is (sym c.in-Some.ensures)

pub returns-in-None-clause-moved : goal.returns-in-None-clause-moved
returns-in-None-clause-moved c =
    let here = rw c.number-index.ensures at c.index.ensures in
    let within : c.args.thread < length c.self.inside.parts.items = omega (arith, c.if-index-len.false, c.len.ensures, c.number-index.ensures) in
    let at_lane = lane_at c.self.inside.limits c.self.inside.dispatcher c.self.inside.parts.items c.self.inside.intake.stream c.self.inside.intake.limits c.self.invariant c.args.thread c.index.result.now within here in
    rw (← c.self.view_is)
    (pull_known (state_of c.self.inside.limits c.self.inside.dispatcher c.self.inside.parts.items c.self.inside.intake.stream) c.args.thread c.index.result.now.lane at_lane None (sym c.in-None.ensures))

pub returns-in-Some-clause-memory : goal.returns-in-Some-clause-memory
returns-in-Some-clause-memory c =
    let here = rw c.number-index.ensures at c.index.ensures in
    let within : c.args.thread < length c.self.inside.parts.items = omega (arith, c.if-index-len.false, c.len.ensures, c.number-index.ensures) in
    let at_lane = lane_at c.self.inside.limits c.self.inside.dispatcher c.self.inside.parts.items c.self.inside.intake.stream c.self.inside.intake.limits c.self.invariant c.args.thread c.index.result.now within here in
    on_err c.collect.result _
    (rw (← c.self.view_is)
    (pull_grows (state_of c.self.inside.limits c.self.inside.dispatcher c.self.inside.parts.items c.self.inside.intake.stream) c.args.thread c.index.result.now.lane c.in-Some.note at_lane (sym c.in-Some.ensures)))
