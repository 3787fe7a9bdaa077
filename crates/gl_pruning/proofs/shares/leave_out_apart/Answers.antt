use Rattle.std.proofs.Common.{sym}
use Rattle.gl_pruning.proofs.InShares.{off_by_share}
use Rattle.gl_pruning.proofs.shares.leave_out_apart.Goals as goal

-- what doesn't stay in a share is in no cycle
pub leave_out_of_share-requires-clause-off : goal.leave_out_of_share-requires-clause-off
leave_out_of_share-requires-clause-off c =
    off_by_share c.args.sought.now c.args.shares.now c.requires.shares c.loop-number.number c.in_ok-share.share c.in_ok-share.ensures c.deref-in-loop-number.result.now (rw (c.deref.ensures.value, sym c.deref-in-loop-number.ensures.value) at c.in_ok-stay.ensures)
