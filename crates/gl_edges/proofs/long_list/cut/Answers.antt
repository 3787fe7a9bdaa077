use Rattle.std.proofs.Common.{◌≡◌, ◌≤◌, refl, rules, subst, arith}
use Rattle.gl_edges.specs.bodies.Sharing.{FollowOn}
use Rattle.gl_edges.proofs.Apart.{follow_push}
use Rattle.gl_edges.proofs.long_list.cut.Goals as goal

pub returns : goal.returns
returns c =
    let (are, within) = c.loop-from.invariant in
    let all : c.loop-from.from ≡ c.args.events = omega (arith, within, c.loop-from-test.false) in
    subst (FollowOn 0 c.loop-from.parts.items) all are

pub loop-from-preserved : goal.loop-from-preserved
loop-from-preserved c =
    let (are, within) = c.loop-from.invariant in
    let forth : c.loop-from.from ≤ c.min-to.result = search rules in
    let low : c.min-to.result ≤ c.args.events = search rules in
    rw c.in_ok-push.ensures.items (follow_push 0 c.loop-from.parts.items c.loop-from.from _ are refl forth, low)
