use Rattle.std.proofs.Common.{◌<◌, ◌≤◌, length, refl, sym, subst, arith, rules}
use Rattle.std.proofs.lemmas.Bool.{false≢true}
use Rattle.gl_intake.specs.Stream.{Collected, spare_of}
use Rattle.gl_intake.proofs.Next.{next_of_none}
use Rattle.gl_intake.proofs.Room.{stream_room}
use Rattle.gl_intake.proofs.Kept.{kept_end}
use Rattle.gl_intake.proofs.intake.Intake.accept_end.Goals as goal

pub index_mut-requires : goal.index_mut-requires
index_mut-requires c =
    let next = next_of_none c.self.inside.limits c.self.inside.stream.items c.args.note.now (rw (← c.self.view_is) at c.requires.next) in
    omega (arith, next.known, c.number-index.ensures, c.self.invariant.cursors_are.count)

pub invariant_of-self-2 : goal.invariant_of-self-2
invariant_of-self-2 c =
    let next = next_of_none c.self.inside.limits c.self.inside.stream.items c.args.note.now (rw (← c.self.view_is) at c.requires.next) in
    let cursor_here = rw c.number-index.ensures at c.index_mut.ensures.value in
    rw (c.in_ok-append.ensures.items, c.number-index.ensures)
    (kept_end c.self.inside.limits c.self.inside.stream.items c.self.inside.logs.items c.self.inside.cursors.items c.self.invariant c.args.note.now next
    c.args.count c.requires.told c.index_mut.result.now _ cursor_here refl refl)

pub returns-in_err-append : goal.returns-in_err-append
returns-in_err-append c =
    record {
      grown = search rules;
      unchanged = search rules;
      room = λ some.
          let next = next_of_none c.self.inside.limits c.self.inside.stream.items c.args.note.now (rw (← c.self.view_is) at c.requires.next) in
          let spare = subst (λ (k : Collected). 1 ≤ spare_of k c.args.note.now.thread) (sym c.self.view_is) some in
          let within : c.args.note.now.thread < length c.self.inside.logs.items = omega (arith, next.known, c.self.invariant.logs_are.count) in
          let ok = c.append.ensures.room (stream_room c.self.inside.stream c.self.inside.logs.items c.args.note.now.thread within spare) in
          let never = rw c.in_err-append.was at ok in
          absurd (false≢true never);
      limits = search rules;
    }
