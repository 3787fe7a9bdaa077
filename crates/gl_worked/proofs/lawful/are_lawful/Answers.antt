use Rattle.gl_worked.proofs.lawful.are_lawful.Goals as goal

pub returns : goal.returns
returns c = λ ok. rw c.greatest.ensures at (c.are_lawful.ensures.0 ok)
