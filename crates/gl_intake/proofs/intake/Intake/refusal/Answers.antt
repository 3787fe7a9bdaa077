use Rattle.std.proofs.Common.{◌<◌, arith}
use Rattle.gl_intake.proofs.Next.{of_stranger, of_known}
use Rattle.gl_intake.proofs.intake.Intake.refusal.Goals as goal

pub returns-then-index-len : goal.returns-then-index-len
returns-then-index-len c =
    rw (← c.self.view_is) (of_stranger c.self.inside.limits c.self.inside.stream.items c.args.note.now (omega (arith, c.self.invariant.cursors_are.count, c.len.ensures, c.number-index.ensures)))

pub returns : goal.returns
returns c =
    let known : c.args.note.now.thread < c.self.inside.limits.threads = omega (arith, c.self.invariant.cursors_are.count, c.len.ensures, c.number-index.ensures) in
    let here = rw c.number-index.ensures at c.index.ensures in
    rw (← c.self.view_is) (of_known c.self.inside.limits c.self.inside.stream.items c.args.note.now c.self.inside.cursors.items c.self.invariant.cursors_are known c.index.result.now here c.cursor_refusal.result c.cursor_refusal.ensures)
