use Rattle.std.proofs.Common.{ap, ◌∙◌, arith}
use Rattle.gl_edges.proofs.tracker.entry_for.Goals as goal

pub unreachable-requires : goal.unreachable-requires
unreachable-requires c =
    let (k, h, within, is, of_lock) = c.requires in
    c.loop-entry.invariant k h (omega arith) (ap (λ x. x.lock) is ∙ of_lock)
