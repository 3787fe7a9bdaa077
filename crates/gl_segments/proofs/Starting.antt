-- From which counts a search may start, and what is kept of them.
use Rattle.std.proofs.Common.{◌≡◌, ℕ, List, [], ◌∷◌, ◌++◌, length, replicate, refl, ap, subst, ◌∙◌, inl, inr, arith}
use Rattle.std.specs.Prelude.{slice_index}
use Rattle.std.proofs.lemmas.List.{length-replicate, get_or_past}
use Rattle.std.proofs.lemmas.List.Elements.{Contains-push_cases}
use Rattle.gl_event.specs.declared.events.Segment.{Segment}
use Rattle.gl_segments.specs.declared.forked.Spawn.{Spawn}
use Rattle.gl_segments.specs.bodies.Tables.{Sources, LeadsTo}
use Rattle.gl_segments.specs.bodies.Search.{Counts, MayStart}
use Rattle.gl_segments.specs.bodies.Fronts.{first_of, AreStarting, IsFront}
use Rattle.gl_segments.proofs.Clocking.{none_counted}

-- no counts
pub front_none : (steps : Sources) (counts : List ℕ) (target : Segment) → length counts ≡ 0 → IsFront steps counts target
front_none steps counts target none =
    let zeros : (thread : ℕ) → slice_index counts thread ≡ 0 = λ thread. get_or_past counts thread 0 (omega arith) in
    record {
      few = omega arith;
      before = λ s counted. absurd (let z = zeros s.thread in omega arith);
      fresh = λ counted. let z = zeros target.thread in omega arith;
      closed = λ s counted. absurd (let z = zeros s.thread in omega arith);
    }

-- a search may start from a clock that has such counts
pub may_start_front : (steps : Sources) (clock counts : List ℕ) (target : Segment) → length clock ≡ length steps → ((thread : ℕ) → slice_index clock thread ≡ slice_index counts thread) → IsFront steps counts target
    → MayStart steps clock target
may_start_front steps clock counts target width same front =
    let counted_too : (s : Segment) → Counts clock s → Counts counts s = λ s counted. let e = same s.thread in omega arith in
    record {
      width = width;
      before = λ s counted. front.before s (counted_too s counted);
      fresh = λ counted. front.fresh (counted_too target counted);
      closed = λ s counted b leads.
          let counts_b : Counts counts b = front.closed s (counted_too s counted) b leads in
          let e = same b.thread in
          omega arith;
    }

-- a search may start from a clock of zeros
pub may_start_zeros : (steps : Sources) (target : Segment) (clock : List ℕ) (threads : ℕ) → clock ≡ replicate threads 0 → threads ≡ length steps → MayStart steps clock target
may_start_zeros steps target clock threads zeros all =
    may_start_front steps clock [] target (ap length zeros ∙ length-replicate threads 0 ∙ all) (λ thread. ap (λ c. slice_index c thread) zeros ∙ none_counted threads thread) (front_none steps [] target refl)

-- one more fork
pub starting_more : (steps : Sources) (forks : List Spawn) (thread : ℕ) (from : Segment) → LeadsTo steps from (first_of thread) → AreStarting steps forks → AreStarting steps (forks ++ record { thread = thread; from = from } ∷ [])
starting_more steps forks thread from step so_far s h =
    elim (Contains-push_cases forks (record { thread = thread; from = from }) s h) [
      | inl before ↦ so_far s before
      | inr same ↦ subst (λ (x : Spawn). LeadsTo steps x.from (first_of x.thread)) same step
    ]
