use Rattle.std.proofs.Common.{◌≤◌, ◌<◌, length, None, sym, ap, ◌∙◌, subst, arith}
use Rattle.std.proofs.lemmas.List.{length-map}
use Rattle.gl_world.specs.Machine.{Lane, State}
use Rattle.gl_world.specs.Keeping.{Keeper}
use Rattle.gl_world.proofs.Worlds.{state_of, again_unknown, again_known, again_same, lane_at, lane_is}
use Rattle.gl_world.proofs.world.World.again.Goals as goal

pub returns-then-index-len : goal.returns-then-index-len
returns-then-index-len c =
    let strange : length c.args.self.now.lanes ≤ c.args.thread =
    subst (λ (s : State). length s.lanes ≤ c.args.thread) c.self.view_is (omega (arith, c.if-index-len.true, c.len.ensures, c.number-index.ensures, length-map c.self.inside.parts.items (λ (k : Keeper). k.lane))) in
    again_unknown c.args.self.now c.args.thread c.args.place strange

pub returns-then-place-popped : goal.returns-then-place-popped
returns-then-place-popped c =
    let here = rw c.number-index.ensures at c.index.ensures in
    let within : c.args.thread < length c.self.inside.parts.items = omega (arith, c.if-index-len.false, c.len.ensures, c.number-index.ensures) in
    let at_lane = lane_at c.self.inside.limits c.self.inside.dispatcher c.self.inside.parts.items c.self.inside.intake.stream c.self.inside.intake.limits c.self.invariant c.args.thread c.index.result.now within here in
    rw (← c.self.view_is)
    (again_same (state_of c.self.inside.limits c.self.inside.dispatcher c.self.inside.parts.items c.self.inside.intake.stream) c.args.thread c.index.result.now.lane at_lane c.args.place (omega (arith, c.if-place-popped.true, c.popped.ensures)))

pub refuse-requires-clause-other : goal.refuse-requires-clause-other
refuse-requires-clause-other c = λ lane found same.
    let here = rw c.number-index.ensures at c.index.ensures in
    let within : c.args.thread < length c.self.inside.parts.items = omega (arith, c.if-index-len.false, c.len.ensures, c.number-index.ensures) in
    let is = lane_is c.self.inside.limits c.self.inside.dispatcher c.self.inside.parts.items c.self.inside.intake.stream c.self.inside.intake.limits c.self.invariant c.args.thread c.index.result.now within here
    c.args.self.now c.self.view_is lane found in
    c.if-place-popped.false (same ∙ ap (λ (l : Lane). l.popped) is ∙ sym c.popped.ensures)

pub refuse-requires-clause-there : goal.refuse-requires-clause-there
refuse-requires-clause-there c = λ lane found.
    let here = rw c.number-index.ensures at c.index-2.ensures in
    let within : c.args.thread < length c.self.inside.parts.items = omega (arith, c.if-index-len.false, c.len.ensures, c.number-index.ensures) in
    let is = lane_is c.self.inside.limits c.self.inside.dispatcher c.self.inside.parts.items c.self.inside.intake.stream c.self.inside.intake.limits c.self.invariant c.args.thread c.index-2.result.now within here
    c.args.self.now c.self.view_is lane found in
    rw is (sym c.in-Some.ensures)

pub returns-in-None : goal.returns-in-None
returns-in-None c =
    let here = rw c.number-index.ensures at c.index-2.ensures in
    let within : c.args.thread < length c.self.inside.parts.items = omega (arith, c.if-index-len.false, c.len.ensures, c.number-index.ensures) in
    let at_lane = lane_at c.self.inside.limits c.self.inside.dispatcher c.self.inside.parts.items c.self.inside.intake.stream c.self.inside.intake.limits c.self.invariant c.args.thread c.index-2.result.now within here in
    rw (← c.self.view_is)
    (again_known (state_of c.self.inside.limits c.self.inside.dispatcher c.self.inside.parts.items c.self.inside.intake.stream) c.args.thread c.index-2.result.now.lane at_lane c.args.place None (sym c.in-None.ensures))
