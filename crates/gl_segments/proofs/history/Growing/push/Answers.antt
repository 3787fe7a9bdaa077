use Rattle.std.proofs.Common.{◌≡◌, ◌++◌, ◌∷◌, [], length, ap, subst, ◌∙◌}
use Rattle.std.specs.Prelude.{slice_index}
use Rattle.gl_segments.specs.bodies.Histories.{IsNoted}
use Rattle.gl_segments.proofs.history.Growing.push.Goals as goal

pub returns-clause-noted : goal.returns-clause-noted
returns-clause-noted c = λ clocks noted own.
    let kept = c.in_ok-keep.ensures.noted clocks noted in
    let latest = c.in_ok-keep.ensures.latest in
    let counts_own : slice_index c.keep.new.self.latest c.keep.new.self.thread ≡ length clocks = ap (λ xs. slice_index xs c.keep.new.self.thread) latest ∙ ap (slice_index c.args.clock.now) c.keep.ensures.still.thread ∙ own in
    subst (λ x. IsNoted c.push_latest.new.self (clocks ++ x ∷ [])) latest (c.push_latest.ensures.noted clocks kept counts_own)
