use Rattle.std.proofs.Common.{refl, sym}
use Rattle.gl_intake.specs.declared.notes.Refused.TheVariants.{Memory}
use Rattle.gl_intake.proofs.Next.{never_for_memory}
use Rattle.gl_intake.proofs.intake.Intake.offer.Goals as goal

pub returns-in-Some-clause-room : goal.returns-in-Some-clause-room
returns-in-Some-clause-room c = λ room same. never_for_memory c.args.self.now.limits c.args.self.now.stream c.args.note c.in-Some.refused (sym c.in-Some.ensures) (cc)

pub returns-then-has_room-clause-room : goal.returns-then-has_room-clause-room
returns-then-has_room-clause-room c = λ room same.
    let refused = rw same at c.take_event.ensures.refused in
    never_for_memory c.args.self.now.limits c.args.self.now.stream c.args.note Memory refused refl
