use Rattle.std.proofs.Common.{◌≡◌, ◌+◌, length, refl, subst, sym, ◌∙◌, arith}
use Rattle.std.specs.Option.{option_map}
use Rattle.gl_segments.specs.Clocks.{is_before}
use Rattle.gl_walks.specs.declared.purpose.Purpose.TheVariants.{Cycle}
use Rattle.gl_findings.proofs.Choosing.{IsBest, IsAnswer, answer, best_more, best_is_first}
use Rattle.gl_findings.proofs.shown.first_with.Goals as goal

-- one turn more
pub loop-k-preserved : goal.loop-k-preserved
loop-k-preserved c =
    let w = c.args.walker.now in
    let signature = c.args.signature.now in
    let pattern = c.as_slice.ensures.value ∙ c.turned.ensures in
    let found = answer (is_before w.ground.order.now) w.ground.mode w.ground.table.now w.ground.flags.now signature Cycle w.ground.classes.now (λ cycle. cycle.items) _ c.in_ok-walk.walk c.in_ok-walk.ensures.found in
    let more = best_more (is_before w.ground.order.now) w.ground.mode w.ground.table.now w.ground.flags.now signature Cycle w.ground.classes.now c.loop-k.k
    (option_map (λ cycle. cycle.items) c.loop-k.first) (option_map (λ cycle. cycle.items) c.in_ok-walk.walk) c.loop-k.invariant
    (subst (λ p. IsAnswer (is_before w.ground.order.now) w.ground.mode w.ground.table.now w.ground.flags.now signature Cycle w.ground.classes.now p (option_map (λ cycle. cycle.items) c.in_ok-walk.walk)) pattern found) in
    subst (IsBest (is_before w.ground.order.now) w.ground.mode w.ground.table.now w.ground.flags.now signature Cycle w.ground.classes.now (c.loop-k.k + 1)) (sym c.lesser-first.ensures) more

pub returns-clause-found : goal.returns-clause-found
returns-clause-found c =
    let w = c.args.walker.now in
    let signature = c.args.signature.now in
    let all : c.loop-k.k ≡ length signature = omega arith in
    best_is_first (is_before w.ground.order.now) w.ground.mode w.ground.table.now w.ground.flags.now signature c.args.len c.requires.kept c.requires.short (λ cycle. cycle.items) Cycle w.ground.classes.now c.loop-k.first refl c.requires.classes
    (subst (λ k. IsBest (is_before w.ground.order.now) w.ground.mode w.ground.table.now w.ground.flags.now signature Cycle w.ground.classes.now k (option_map (λ cycle. cycle.items) c.loop-k.first)) all c.loop-k.invariant)
