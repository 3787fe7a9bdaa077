use Rattle.gl_intake.proofs.Next.{next_of_none, none_of_next}
use Rattle.gl_intake.proofs.laws.notes_are_refused_unless_next.Goals as goal

pub returns : goal.returns
returns c = λ limits stream note. (next_of_none limits stream note, none_of_next limits stream note)
