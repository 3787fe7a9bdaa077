use Rattle.std.proofs.Common.{◌<◌, ◌≤◌, length, refl, sym, subst, arith, rules}
use Rattle.std.proofs.lemmas.Bool.{false≢true}
use Rattle.gl_intake.specs.Stream.{Collected, spare_of}
use Rattle.gl_intake.proofs.Next.{next_of_none}
use Rattle.gl_intake.proofs.Room.{has_room}
use Rattle.gl_intake.proofs.Kept.{may_follow, kept_event}
use Rattle.gl_intake.proofs.intake.Intake.accept_event.Goals as goal

pub index_mut-requires : goal.index_mut-requires
index_mut-requires c =
    let next = next_of_none c.self.inside.limits c.self.inside.stream.items c.args.note.now (rw (← c.self.view_is) at c.requires.next) in
    omega (arith, next.known, c.number-index.ensures, c.self.invariant.logs_are.count)

pub index_mut-requires-2 : goal.index_mut-requires-2
index_mut-requires-2 c =
    let next = next_of_none c.self.inside.limits c.self.inside.stream.items c.args.note.now (rw (← c.self.view_is) at c.requires.next) in
    omega (arith, next.known, c.number-index.ensures, c.self.invariant.cursors_are.count)

pub advance-requires : goal.advance-requires
advance-requires c =
    let next = next_of_none c.self.inside.limits c.self.inside.stream.items c.args.note.now (rw (← c.self.view_is) at c.requires.next) in
    let cursor_here = rw c.number-index.ensures at c.index_mut-2.ensures.value in
    may_follow c.self.inside.limits c.self.inside.stream.items c.self.inside.cursors.items c.self.invariant.cursors_are c.args.note.now next c.args.event.now c.requires.told c.index_mut-2.result.now cursor_here

pub invariant_of-self-2 : goal.invariant_of-self-2
invariant_of-self-2 c =
    let next = next_of_none c.self.inside.limits c.self.inside.stream.items c.args.note.now (rw (← c.self.view_is) at c.requires.next) in
    let log_here = rw c.number-index.ensures at c.index_mut.ensures.value in
    let cursor_here = rw c.number-index.ensures at c.index_mut-2.ensures.value in
    rw (c.in_ok-append_both.ensures.second, c.number-index.ensures)
    (kept_event c.self.inside.limits c.self.inside.stream.items c.self.inside.logs.items c.self.inside.cursors.items c.self.invariant c.args.note.now next
    c.args.event.now c.requires.told c.index_mut.result.now c.append_both.new.xs log_here c.in_ok-append_both.ensures.first
    c.index_mut-2.result.now _ cursor_here refl c.advance.ensures)

pub returns-in_err-append_both : goal.returns-in_err-append_both
returns-in_err-append_both c =
    record {
      grown = search rules;
      unchanged = search rules;
      room = λ some.
          let next = next_of_none c.self.inside.limits c.self.inside.stream.items c.args.note.now (rw (← c.self.view_is) at c.requires.next) in
          let spare = subst (λ (k : Collected). 1 ≤ spare_of k c.args.note.now.thread) (sym c.self.view_is) some in
          let within : c.args.note.now.thread < length c.self.inside.logs.items = omega (arith, next.known, c.self.invariant.logs_are.count) in
          let log_here = rw c.number-index.ensures at c.index_mut.ensures.value in
          let (in_stream, in_log) = has_room c.self.inside.stream c.self.inside.logs.items c.args.note.now.thread c.index_mut.result.now within log_here spare in
          let ok = c.append_both.ensures.room in_log in_stream in
          let never = rw c.in_err-append_both.was at ok in
          absurd (false≢true never);
      limits = search rules;
    }
