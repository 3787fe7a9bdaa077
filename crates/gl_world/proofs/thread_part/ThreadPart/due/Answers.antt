use Rattle.std.proofs.Common.{◌≡◌, sym, subst}
use Rattle.std.specs.Prelude.{IfOk}
use Rattle.gl_world.specs.Machine.{edges_due, taken_of}
use Rattle.gl_world.specs.Keeping.{Keeper, IsFrontOf}
use Rattle.gl_world.proofs.ThreadParts.{due_if}
use Rattle.gl_world.proofs.thread_part.ThreadPart.due.Goals as goal

pub returns-in-Happened : goal.returns-in-Happened
returns-in-Happened c =
    let front = subst (λ (k : Keeper). IsFrontOf k.limits k.thread k.lane c.args.note.now) (sym c.self.view_is) c.requires in
    subst (λ (k : Keeper). IfOk c.next_edges.result (λ edges. edges.items ≡ edges_due k.thread (taken_of k.thread k.lane) c.args.note.now.place c.args.note.now.body)) c.self.view_is
    (due_if _ _ _ _ front c.in-Happened.event c.in-Happened.is c.next_edges.result (c.next_edges.ensures.edges _ _ c.self.invariant.follows))
