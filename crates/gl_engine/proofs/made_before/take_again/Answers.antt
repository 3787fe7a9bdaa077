use Rattle.std.proofs.Common.{[]}
use Rattle.gl_engine.proofs.made_before.take_again.Goals as goal

pub returns-in-Ok-clause-made : goal.returns-in-Ok-clause-made
returns-in-Ok-clause-made c =
    let added = c.accept_with_edges.ensures.added in
    record { due = rw (added.spares) (added.due [] c.requires.made.due); notes = added.notes }
