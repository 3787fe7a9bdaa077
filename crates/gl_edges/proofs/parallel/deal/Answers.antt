use Rattle.std.proofs.Common.{◌≡◌, length, arith, refl, subst}
use Rattle.gl_edges.specs.bodies.Sharing.{FollowOn}
use Rattle.gl_edges.proofs.Apart.{follow_push}
use Rattle.gl_edges.proofs.parallel.deal.Goals as goal
use Rattle.gl_edges.proofs.parallel.deal.Goals.{then-from-i+then-is_due+in_ok-push, else-from-i, then-from-lists+in_ok-push-2, else-from-lists}

pub loop-i-preserved : goal.loop-i-preserved
loop-i-preserved c =
    let (are, low, within) = c.loop-i.invariant in
    elim c.if-from-i.branch [
      | then-from-i+then-is_due+in_ok-push w ↦
          rw (w.shares-is, w.from-is, w.in_ok-push.ensures.items)
          (follow_push 0 c.loop-i.shares.items c.loop-i.from _ are refl low, omega arith, omega (arith, c.loop-i-test.true))
      | else-from-i w ↦ rw (w.shares-is, w.from-is) (are, omega (arith, low), within)
    ]

pub returns : goal.returns
returns c =
    let (are, low, within) = c.loop-i.invariant in
    elim c.if-from-lists.branch [
      | then-from-lists+in_ok-push-2 w ↦
          rw (w.shares-is, w.in_ok-push-2.ensures.items)
          (follow_push 0 c.loop-i.shares.items c.loop-i.from _ are refl within)
      | else-from-lists w ↦
          let all : c.loop-i.from ≡ length c.args.lists.now = omega (arith, within, w.if-from-lists.false) in
          rw w.shares-is (subst (FollowOn 0 c.loop-i.shares.items) all are)
    ]
