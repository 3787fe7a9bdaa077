use Rattle.std.proofs.Common.{◌≡◌, ℕ, List, [], refl, subst, ◌∙◌, inl, inr, arith}
use Rattle.std.specs.Prelude.{slice_index, slice_index_or}
use Rattle.std.proofs.lemmas.Bool.{cases_lt}
use Rattle.gl_segments.specs.bodies.Merging.{IsReached}
use Rattle.gl_segments.proofs.Merging.{merged_none, merged_twice, reached_still}
use Rattle.gl_segments.proofs.history.Growing.reach_first.Goals as goal

pub loop-place-init : goal.loop-place-init
loop-place-init c = record {
  same_thread = refl;
  same_segments = refl;
  merged = merged_none _ _;
  reached = λ k below. absurd (omega arith);
  noted = λ clocks some noted. noted;
}

pub loop-place-preserved : goal.loop-place-preserved
loop-place-preserved c =
    let inv = c.loop-place.invariant in
    let merged = c.in_ok-reach.ensures.latest in
    let other : List ℕ = slice_index_or c.args.other.now c.args.index [] in
    let first = c.args.first.now in
    let new = c.reach.new.self.latest in
    record {
      same_thread = c.reach.ensures.still.thread ∙ inv.same_thread;
      same_segments = c.reach.ensures.still.segments ∙ inv.same_segments;
      merged = merged_twice _ _ _ _ inv.merged merged;
      reached = λ k below.
          elim (cases_lt k c.loop-place.place) [
            | inl lower ↦ reached_still c.args.self.now.latest other c.loop-place.self.latest new k (slice_index first k) merged (inv.reached k lower)
            | inr upper ↦
                let last : c.loop-place.place ≡ k = omega arith in
                let here : IsReached other new c.loop-place.place (slice_index first c.loop-place.place) = subst (λ t. IsReached other new t (slice_index first c.loop-place.place)) c.new-thread.ensures c.in_ok-reach.ensures.reached in
                subst (λ n. IsReached other new n (slice_index first n)) last here
          ];
      noted = λ clocks some noted. c.in_ok-reach.ensures.noted clocks some (inv.noted clocks some noted);
    }

pub returns-clause-reached : goal.returns-clause-reached
returns-clause-reached c = λ k below.
    let inv = c.loop-place.invariant in
    elim (cases_lt k c.loop-place.place) [
      | inl lower ↦ inv.reached k lower
      | inr upper ↦
          let threads = c.threads.ensures in
          let end = c.min-threads.ensures in
          let past = c.loop-place-test.false in
          let width = inv.merged.width in
          inr (inr (omega arith))
    ]
