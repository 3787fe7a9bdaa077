use Rattle.std.proofs.Common.{◌<◌, ◌++◌, ◌+◌, sym, ap, subst, ◌∙◌, arith}
use Rattle.gl_lane.specs.bodies.Runs.{rest, AreTaken}
use Rattle.rtrb.specs.Ring.{received, known_items}
use Rattle.gl_lane.proofs.Running.{rest_from, taken_anew}
use Rattle.gl_lane.proofs.ends.LaneOut.peek.Goals as goal

pub returns-then-self-clause-shown : goal.returns-then-self-clause-shown
returns-then-self-clause-shown c =
    let i = c.self.inside in
    let more : i.popped < i.taken = omega (arith, c.self.invariant.within, c.if-self.true) in
    let next = rest_from i.popped i.taken i.run c.index-self-self.result more c.self.invariant.fit in (
      rest (i.popped + 1) i.taken i.run ++ known_items i.consumer,
      ap (λ ys. ys ++ known_items i.consumer) (sym next) ∙ ap (λ v. v.left) c.self.view_is,
    )

pub invariant_of-self-2 : goal.invariant_of-self-2
invariant_of-self-2 c =
    let p = c.pop_partial_slice-self-inside in
    subst (AreTaken 0 p.result p.new.slice) (sym p.ensures.received.1)
    (taken_anew p.result p.new.slice (received c.self.inside.consumer) (omega (arith, p.ensures.received.0, p.auto.slice)) p.ensures.allowed)
