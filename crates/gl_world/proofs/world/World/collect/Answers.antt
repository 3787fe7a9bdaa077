use Rattle.std.proofs.Common.{◌≡◌, ◌<◌, length, None, sym, ap, ◌∙◌, subst, arith}
use Rattle.std.proofs.lemmas.List.{length-map}
use Rattle.gl_intake.specs.Stream.{note_refusal}
use Rattle.gl_world.specs.Machine.{State, edges_due, taken_of}
use Rattle.gl_world.specs.Keeping.{Keeper, IsSound}
use Rattle.gl_world.proofs.Worlds.{front_allowed, front_here, front_there, pull_world, pull_moved, same_part}
use Rattle.gl_world.proofs.world.World.collect.Goals as goal

pub make_ready-requires : goal.make_ready-requires
make_ready-requires c =
    let s = c.args.self.now in
    let sound : IsSound s = subst IsSound c.self.view_is c.self.invariant.sound in
    let allowed = front_allowed s sound c.args.thread c.args.note.now c.requires.known c.requires.front in
    let none = rw (← c.self.invariant.same_limits) at (subst (λ (s : State). note_refusal s.limits s.stream c.args.note.now ≡ None) (sym c.self.view_is) allowed) in
    none

pub accept-accepted-requires-clause-next : goal.accept-accepted-requires-clause-next
accept-accepted-requires-clause-next c =
    let s = c.args.self.now in
    let sound : IsSound s = subst IsSound c.self.view_is c.self.invariant.sound in
    let allowed = front_allowed s sound c.args.thread c.args.note.now c.requires.known c.requires.front in
    let none = rw (← c.self.invariant.same_limits) at (subst (λ (s : State). note_refusal s.limits s.stream c.args.note.now ≡ None) (sym c.self.view_is) allowed) in
    rw (c.make_ready.ensures.limits, c.make_ready.ensures.stream) none

pub due-requires : goal.due-requires
due-requires c =
    let here = rw c.number-index.ensures at c.index.ensures in
    let known : c.args.thread < length c.self.inside.parts.items =
    (let k = subst (λ (s : State). c.args.thread < length s.lanes) (sym c.self.view_is) c.requires.known in omega (arith, k, length-map c.self.inside.parts.items (λ (k : Keeper). k.lane))) in
    let front = front_there c.self.inside.limits c.self.inside.dispatcher c.self.inside.parts.items c.self.inside.intake.stream c.self.inside.intake.limits c.self.invariant c.args.thread c.index.result.now known here
    c.args.self.now c.self.view_is c.args.note.now c.requires.front in
    front_here c.self.inside.limits c.self.inside.dispatcher c.self.inside.parts.items c.self.inside.intake.stream c.self.inside.intake.limits c.self.invariant c.args.thread c.index.result.now known here
    c.args.note.now front

pub pop-requires : goal.pop-requires
pop-requires c =
    let here = rw c.number-index.ensures at c.index_mut.ensures.value in
    let known : c.args.thread < length c.self.inside.parts.items =
    (let k = subst (λ (s : State). c.args.thread < length s.lanes) (sym c.self.view_is) c.requires.known in omega (arith, k, length-map c.self.inside.parts.items (λ (k : Keeper). k.lane))) in
    let front = front_there c.self.inside.limits c.self.inside.dispatcher c.self.inside.parts.items c.self.inside.intake.stream c.self.inside.intake.limits c.self.invariant c.args.thread c.index_mut.result.now known here
    c.args.self.now c.self.view_is c.args.note.now c.requires.front in
    front_here c.self.inside.limits c.self.inside.dispatcher c.self.inside.parts.items c.self.inside.intake.stream c.self.inside.intake.limits c.self.invariant c.args.thread c.index_mut.result.now known here
    c.args.note.now front

pub invariant_of-self-2 : goal.invariant_of-self-2
invariant_of-self-2 c =
    let here = rw c.number-index.ensures at c.index_mut.ensures.value in
    let first = rw c.number-index.ensures at c.index.ensures in
    let known : c.args.thread < length c.self.inside.parts.items =
    (let k = subst (λ (s : State). c.args.thread < length s.lanes) (sym c.self.view_is) c.requires.known in omega (arith, k, length-map c.self.inside.parts.items (λ (k : Keeper). k.lane))) in
    let front = front_there c.self.inside.limits c.self.inside.dispatcher c.self.inside.parts.items c.self.inside.intake.stream c.self.inside.intake.limits c.self.invariant c.args.thread c.index_mut.result.now known here
    c.args.self.now c.self.view_is c.args.note.now c.requires.front in
    let same = same_part c.self.inside.parts.items c.args.thread c.index.result.now c.index_mut.result.now known first here in
    let due = c.in_ok-edges.ensures ∙ ap (λ (k : Keeper). edges_due k.thread (taken_of k.thread k.lane) c.args.note.now.place c.args.note.now.body) same in
    rw (c.number-index.ensures, c.accept-accepted.ensures.grown, c.accept-accepted.ensures.limits, c.make_ready.ensures.stream, c.make_ready.ensures.limits, c.in_ok-add.ensures.added)
    (pull_world c.self.inside.limits c.self.inside.dispatcher c.self.inside.parts.items c.self.inside.intake.stream c.self.inside.intake.limits c.self.invariant c.args.thread c.index_mut.result.now known here
    c.args.note.now front c.pop.new.self c.pop.ensures c.in_ok-edges.edges.items due)

pub returns-clause-moved : goal.returns-clause-moved
returns-clause-moved c =
    let here = rw c.number-index.ensures at c.index_mut.ensures.value in
    let first = rw c.number-index.ensures at c.index.ensures in
    let known : c.args.thread < length c.self.inside.parts.items =
    (let k = subst (λ (s : State). c.args.thread < length s.lanes) (sym c.self.view_is) c.requires.known in omega (arith, k, length-map c.self.inside.parts.items (λ (k : Keeper). k.lane))) in
    let front = front_there c.self.inside.limits c.self.inside.dispatcher c.self.inside.parts.items c.self.inside.intake.stream c.self.inside.intake.limits c.self.invariant c.args.thread c.index_mut.result.now known here
    c.args.self.now c.self.view_is c.args.note.now c.requires.front in
    let same = same_part c.self.inside.parts.items c.args.thread c.index.result.now c.index_mut.result.now known first here in
    let due = c.in_ok-edges.ensures ∙ ap (λ (k : Keeper). edges_due k.thread (taken_of k.thread k.lane) c.args.note.now.place c.args.note.now.body) same in
    rw (← c.self.view_is, c.number-index.ensures, c.accept-accepted.ensures.grown, c.make_ready.ensures.stream, c.in_ok-add.ensures.added, c.accept-accepted.ensures.answer)
    (pull_moved c.self.inside.limits c.self.inside.dispatcher c.self.inside.parts.items c.self.inside.intake.stream c.self.inside.intake.limits c.self.invariant c.args.thread c.index_mut.result.now known here
    c.args.note.now front c.pop.new.self c.pop.ensures c.in_ok-edges.edges.items due)
