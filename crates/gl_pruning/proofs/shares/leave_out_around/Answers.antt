use Rattle.std.proofs.Common.{IfSome, subst, sym}
use Rattle.gl_pruning.specs.bodies.Shares.{AreShares}
use Rattle.gl_pruning.proofs.InShares.{off_by_share}
use Rattle.gl_pruning.proofs.shares.leave_out_around.Goals as goal

-- what doesn't stay in a share is in no cycle
pub leave_out_of_share-requires-clause-off : goal.leave_out_of_share-requires-clause-off
leave_out_of_share-requires-clause-off c =
    off_by_share c.args.sought.now c.in-Some.shares (subst (λ found. IfSome found (λ shares. AreShares c.args.sought.now shares)) c.in-Some.is c.in_ok-shares.ensures) c.share_of.result c.in_ok-share.share c.in_ok-share.ensures c.deref-4.result.now (rw (c.deref-3.ensures.value, sym c.deref-4.ensures.value) at c.in_ok-stay.ensures)
