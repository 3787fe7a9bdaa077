use Rattle.std.proofs.Common.{◌≤◌, ◌<◌, length, ap, ◌∙◌, subst, arith}
use Rattle.std.proofs.lemmas.List.{length-map}
use Rattle.gl_world.specs.Machine.{State}
use Rattle.gl_world.specs.Enabled.{grows}
use Rattle.gl_world.specs.Keeping.{Keeper}
use Rattle.gl_world.proofs.Errors.{on_err}
use Rattle.gl_world.proofs.Worlds.{take_unknown, take_moved, take_did, take_world}
use Rattle.gl_world.proofs.world.World.take.Goals as goal

pub returns-then-index-len-clause-moved : goal.returns-then-index-len-clause-moved
returns-then-index-len-clause-moved c =
    let strange : length c.args.self.now.lanes ≤ c.args.thread =
    subst (λ (s : State). length s.lanes ≤ c.args.thread) c.self.view_is (omega (arith, c.if-index-len.true, c.len.ensures, c.number-index.ensures, length-map c.self.inside.parts.items (λ (k : Keeper). k.lane))) in
    take_unknown c.args.self.now c.args.thread strange

pub invariant_of-self-2 : goal.invariant_of-self-2
invariant_of-self-2 c =
    let here = rw c.number-index.ensures at c.index_mut.ensures.value in
    let within : c.args.thread < length c.self.inside.parts.items = omega (arith, c.if-index-len.false, c.len.ensures, c.number-index.ensures) in
    rw c.number-index.ensures
    (take_world c.self.inside.limits c.self.inside.dispatcher c.self.inside.parts.items c.self.inside.intake.stream c.self.inside.intake.limits c.self.invariant c.args.thread c.index_mut.result.now within here
    c.take.new.self c.in_ok-did.did c.in_ok-did.ensures.moved c.in_ok-did.ensures.answer)

pub returns-clause-moved : goal.returns-clause-moved
returns-clause-moved c =
    let here = rw c.number-index.ensures at c.index_mut.ensures.value in
    let within : c.args.thread < length c.self.inside.parts.items = omega (arith, c.if-index-len.false, c.len.ensures, c.number-index.ensures) in
    rw (← c.self.view_is, c.number-index.ensures)
    (take_moved c.self.inside.limits c.self.inside.dispatcher c.self.inside.parts.items c.self.inside.intake.stream c.self.inside.intake.limits c.self.invariant c.args.thread c.index_mut.result.now within here
    c.take.new.self c.in_ok-did.did c.in_ok-did.ensures.moved c.in_ok-did.ensures.answer)

pub returns-in_err-did-clause-memory : goal.returns-in_err-did-clause-memory
returns-in_err-did-clause-memory c =
    let here = rw c.number-index.ensures at c.index_mut.ensures.value in
    let within : c.args.thread < length c.self.inside.parts.items = omega (arith, c.if-index-len.false, c.len.ensures, c.number-index.ensures) in
    on_err c.from_residual.result _
    (rw (← c.self.view_is)
    (ap grows
    (take_did c.self.inside.limits c.self.inside.dispatcher c.self.inside.parts.items c.self.inside.intake.stream c.self.inside.intake.limits c.self.invariant c.args.thread c.index_mut.result.now within here)
    ∙ c.in_err-did.ensures.memory))
