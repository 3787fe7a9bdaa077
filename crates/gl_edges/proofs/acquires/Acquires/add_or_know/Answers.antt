use Rattle.std.proofs.Common.{refl, inr}
use Rattle.gl_edges.proofs.acquires.Acquires.add_or_know.Goals as goal

pub returns-then-branch-clause-added : goal.returns-then-branch-clause-added
returns-then-branch-clause-added c = λ es stands. inr (refl, c.in_ok-note.ensures.known es stands c.if-branch.true)
