use Rattle.std.proofs.Common.{sym}
use Rattle.gl_intake.proofs.Next.{next_of_none, never_for_memory}
use Rattle.gl_intake.proofs.intake.Intake.ready.Goals as goal

pub reserve-requires : goal.reserve-requires
reserve-requires c = (next_of_none c.args.self.now.limits c.args.self.now.stream c.args.note.now (sym c.in_default.ensures)).known

pub returns-in-Some-clause-room : goal.returns-in-Some-clause-room
returns-in-Some-clause-room c = λ room same. never_for_memory c.args.self.now.limits c.args.self.now.stream c.args.note.now c.in-Some.refused (sym c.in-Some.ensures) (cc)
