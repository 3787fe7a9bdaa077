use Rattle.std.proofs.Common.{◌<◌, ◌≤◌, Some, None, sym, subst, arith}
use Rattle.std.proofs.lemmas.Result.{err_from_is_err_and}
use Rattle.gl_intake.specs.Stream.{Collected, spare_of}
use Rattle.gl_intake.proofs.Next.{next_of_none, of_known}
use Rattle.gl_intake.proofs.Room.{known_by_room}
use Rattle.gl_intake.proofs.Kept.{kept_event}
use Rattle.gl_intake.proofs.intake.Intake.take_event.Goals as goal

pub returns-in_err-take_next-clause-refused : goal.returns-in_err-take_next-clause-refused
returns-in_err-take_next-clause-refused c =
    let spare = subst (λ (k : Collected). 1 ≤ spare_of k c.args.note.now.thread) (sym c.self.view_is) c.requires.reserved in
    let within = known_by_room c.self.inside.stream c.self.inside.logs.items c.args.note.now.thread spare in
    let known : c.args.note.now.thread < c.self.inside.limits.threads = omega (arith, within, c.self.invariant.logs_are.count) in
    let here = rw c.number-index.ensures at c.index_mut.ensures.value in
    let p = err_from_is_err_and c.from_residual.result c.from_residual.ensures.1 in
    rw (p.1, p.2, ← c.self.view_is) (sym (of_known c.self.inside.limits c.self.inside.stream.items c.args.note.now c.self.inside.cursors.items c.self.invariant.cursors_are known c.index_mut.result.now here
    (Some c.in_err-take_next.field-0.0) (λ b es tracks. sym (c.in_err-take_next.ensures.refused b es tracks))))

pub invariant_of-self-2 : goal.invariant_of-self-2
invariant_of-self-2 c =
    let spare = subst (λ (k : Collected). 1 ≤ spare_of k c.args.note.now.thread) (sym c.self.view_is) c.requires.reserved in
    let within = known_by_room c.self.inside.stream c.self.inside.logs.items c.args.note.now.thread spare in
    let known : c.args.note.now.thread < c.self.inside.limits.threads = omega (arith, within, c.self.invariant.logs_are.count) in
    let cursor_here = rw c.number-index.ensures at c.index_mut.ensures.value in
    let log_here = rw c.number-index.ensures at c.index_mut-2.ensures.value in
    let none = sym (of_known c.self.inside.limits c.self.inside.stream.items c.args.note.now c.self.inside.cursors.items c.self.invariant.cursors_are known c.index_mut.result.now cursor_here
    None (λ b es tracks. sym (c.in_ok-take_next.ensures.next b es tracks))) in
    let next = next_of_none c.self.inside.limits c.self.inside.stream.items c.args.note.now none in
    rw (c.keep_both.ensures.second, c.number-index.ensures)
    (kept_event c.self.inside.limits c.self.inside.stream.items c.self.inside.logs.items c.self.inside.cursors.items c.self.invariant c.args.note.now next
    c.args.event.now c.requires.told c.index_mut-2.result.now c.keep_both.new.xs log_here c.keep_both.ensures.first
    c.index_mut.result.now c.take_next.new.past cursor_here c.take_next.ensures.ended c.in_ok-take_next.ensures.tracks)

pub returns-clause-accepted : goal.returns-clause-accepted
returns-clause-accepted c =
    let spare = subst (λ (k : Collected). 1 ≤ spare_of k c.args.note.now.thread) (sym c.self.view_is) c.requires.reserved in
    let within = known_by_room c.self.inside.stream c.self.inside.logs.items c.args.note.now.thread spare in
    let known : c.args.note.now.thread < c.self.inside.limits.threads = omega (arith, within, c.self.invariant.logs_are.count) in
    let here = rw c.number-index.ensures at c.index_mut.ensures.value in
    rw (← c.self.view_is) (sym (of_known c.self.inside.limits c.self.inside.stream.items c.args.note.now c.self.inside.cursors.items c.self.invariant.cursors_are known c.index_mut.result.now here
    None (λ b es tracks. sym (c.in_ok-take_next.ensures.next b es tracks))))
