use Rattle.std.proofs.Common.{◌<◌, ◌≤◌, length, subst, sym, arith}
use Rattle.gl_intake.specs.Stream.{Collected, spare_of}
use Rattle.gl_intake.proofs.Kept.{kept_room}
use Rattle.gl_intake.proofs.Room.{has_room, ok_both, room_made}
use Rattle.gl_intake.proofs.intake.Intake.reserve.Goals as goal

pub invariant_of-self : goal.invariant_of-self
invariant_of-self c =
    let known = subst (λ (k : Collected). c.args.thread < k.limits.threads) (sym c.self.view_is) c.requires in
    let here = rw c.number-index.ensures at c.index_mut.ensures.value in
    rw (c.make_room.ensures.second, c.number-index.ensures)
    (kept_room c.self.inside.limits c.self.inside.stream.items c.self.inside.logs.items c.self.inside.cursors.items c.self.invariant c.args.thread known c.index_mut.result.now c.make_room.new.xs here c.make_room.ensures.first)

pub returns-clause-reserved : goal.returns-clause-reserved
returns-clause-reserved c =
    let known = subst (λ (k : Collected). c.args.thread < k.limits.threads) (sym c.self.view_is) c.requires in
    let within : c.args.thread < length c.self.inside.logs.items = omega (arith, known, c.self.invariant.logs_are.count) in
    rw c.number-index.ensures
    (ok_both c.make_room.result _ _ _ c.make_room.ensures.first_room c.make_room.ensures.second_room
    (λ log_room stream_room. room_made c.make_room.new.ys c.self.inside.logs.items c.args.thread c.make_room.new.xs within stream_room log_room))

pub returns-clause-room : goal.returns-clause-room
returns-clause-room c = λ some.
    let known = subst (λ (k : Collected). c.args.thread < k.limits.threads) (sym c.self.view_is) c.requires in
    let spare = subst (λ (k : Collected). 1 ≤ spare_of k c.args.thread) (sym c.self.view_is) some in
    let within : c.args.thread < length c.self.inside.logs.items = omega (arith, known, c.self.invariant.logs_are.count) in
    let here = rw c.number-index.ensures at c.index_mut.ensures.value in
    let (in_stream, in_log) = has_room c.self.inside.stream c.self.inside.logs.items c.args.thread c.index_mut.result.now within here spare in
    c.make_room.ensures.room in_log in_stream
