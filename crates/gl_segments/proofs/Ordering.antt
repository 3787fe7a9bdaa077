-- From the clocks of the table to the order of the lists.
use Rattle.std.proofs.Common.{◌≡◌, ℕ, ◌+◌, ◌<◌, List, [], ◌∷◌, ◌++◌, length, refl, sym, ap, subst, ◌∙◌, inl, inr, arith}
use Rattle.std.specs.Prelude.{slice_get, slice_index, slice_index_or}
use Rattle.std.proofs.lemmas.Bool.{cases_lt, lt-ltb, ltb-true}
use Rattle.std.proofs.lemmas.List.{length_push, get_or_append_left, get_or_push, get_or_past}
use Rattle.gl_event.specs.declared.events.Event.{Event}
use Rattle.gl_event.specs.declared.events.Segment.{Segment}
use Rattle.gl_segments.specs.Segments.{IsStep, Before, IsRing, IsConsistent, IsLeastInRing}
use Rattle.gl_segments.specs.Clocks.{Clocks, ahead, OrdersBy, CountsBefore}
use Rattle.gl_segments.specs.Orders.{IsFaultOf}
use Rattle.gl_segments.specs.bodies.Tables.{Sources, Has, LeadsTo, Precedes, IsSound, ShowsSteps}
use Rattle.gl_segments.specs.bodies.Search.{IsClockOf}
use Rattle.gl_segments.specs.bodies.Rows.{AreClocksOf, AreClocksTo, IsFirstOfThread, IsThreadFault}
use Rattle.gl_segments.specs.declared.faults.OrderFault.{OrderFault}
use Rattle.gl_segments.specs.declared.faults.OrderFault.TheVariants.{Inconsistent, Memory}
use Rattle.gl_segments.proofs.Chains.{leads_weaker, precedes_has, thread_inside}

-- clocks that order the lists count the segments that are before each
pub counted : (lists : List (List Event)) (clocks : Clocks) (a : Segment) (thread : ℕ) → OrdersBy lists clocks → CountsBefore lists a thread (ahead clocks a thread)
counted lists clocks a thread orders i =
    let s : Segment = record { thread = thread; index = i } in
    (λ below. (orders s a).0 (lt-ltb i (ahead clocks a thread) below), λ before. ltb-true i (ahead clocks a thread) ((orders s a).1 before))

-- those of no threads
pub clocks_none : (steps : Sources) → AreClocksTo steps [] 0
clocks_none steps = record { size = refl; each = λ t below. absurd (omega arith) }

-- those of one more thread
pub threads_more : (steps : Sources) (clocks : Clocks) (n : ℕ) (new : List (List ℕ)) → AreClocksOf steps n new → AreClocksTo steps clocks n → AreClocksTo steps (clocks ++ new ∷ []) (n + 1)
threads_more steps clocks n new is so_far = record {
  size = length_push clocks new ∙ ap (λ k. k + 1) so_far.size;
  each = λ t below.
      elim (cases_lt t n) [
        | inl lower ↦ subst (AreClocksOf steps t) (sym (get_or_append_left clocks (new ∷ []) [] t (let s = so_far.size in omega arith))) (so_far.each t lower)
        | inr upper ↦
            let last : n ≡ t = omega arith in
            subst (AreClocksOf steps t) (sym (get_or_push clocks new [] t (so_far.size ∙ last))) (subst (λ k. AreClocksOf steps k new) last is)
      ];
}

module _ (lists : List (List Event)) (steps : Sources) (shows : ShowsSteps lists steps) (sound : IsSound steps) where
  -- what is before in the lists is before by the table
  precedes : (a b : Segment) → Before lists a b → Precedes steps a b
  precedes a b p = (p.0, leads_weaker (IsStep lists) (LeadsTo steps) shows.forward a p.0 b p.1)

  -- no segment of the first n threads is before itself
  apart_below : (clocks : Clocks) (n : ℕ) → AreClocksTo steps clocks n → (s : Segment) → s.thread < n → Before lists s s → ⊥
  apart_below clocks n so_far s below p =
      let q = precedes s s p in
      (so_far.each s.thread below).apart s.index (precedes_has steps s s q) q

  -- the least segment of a thread that is before itself is the least of the lists
  fault_in_thread : (clocks : Clocks) (n : ℕ) (at : Segment) (ring : List Segment) → AreClocksTo steps clocks n → IsFirstOfThread steps n at ring → IsLeastInRing lists at ring
  fault_in_thread clocks n at ring so_far is = record {
    begins = ap (λ xs. slice_get xs 0) is.begins;
    rings = subst (IsRing lists) (sym is.begins) (leads_weaker (LeadsTo steps) (IsStep lists) shows.back at is.via at is.rings);
    least = λ s p below.
        elim below [
          | inl lower ↦ apart_below clocks n so_far s (let t = is.same_thread in omega arith) p
          | inr (same, earlier) ↦
              let q = precedes s s p in
              let here : s.thread ≡ n = same ∙ is.same_thread in
              is.first s.index earlier (subst (λ t. let x : Segment = record { thread = t; index = s.index } in Precedes steps x x) here q)
        ];
  }

  -- a fault of a thread, after the clocks of those before it, is a fault of the lists
  pub fault_of : (clocks : Clocks) (n : ℕ) (fault : OrderFault) → AreClocksTo steps clocks n → IsThreadFault steps n fault → IsFaultOf lists fault
  fault_of clocks n (Inconsistent at ring) so_far is = fault_in_thread clocks n at ring.items so_far is
  fault_of clocks n Memory so_far is = tt

  module _ (clocks : Clocks) (all : AreClocksTo steps clocks (length steps)) where
    pub consistent : IsConsistent lists
    consistent = record {
      each = λ s p.
          let has = precedes_has steps s s (precedes s s p) in
          apart_below clocks (length steps) all s (thread_inside steps s has) p;
    }

    -- the clock of each segment
    clock_of : (b : Segment) → Has steps b → IsClockOf steps (slice_index_or (slice_index_or clocks b.thread []) b.index []) b
    clock_of b has = (all.each b.thread (thread_inside steps b has)).each b.index has

    -- what a clock is looked up for has its place in the table
    counted_has : (a b : Segment) → a.index < ahead clocks b a.thread → Has steps b
    counted_has a b h =
        elim (cases_lt b.thread (length clocks)) [
          | inl known ↦
              let size = (all.each b.thread (let s = all.size in omega arith)).size in
              elim (cases_lt b.index (length (slice_index_or clocks b.thread []))) [
                | inl here ↦ omega arith
                | inr past ↦
                    let none = get_or_past (slice_index_or clocks b.thread []) b.index [] past in
                    let zero_ahead : ahead clocks b a.thread ≡ 0 = ap (λ c. slice_index c a.thread) none in
                    absurd (omega arith)
              ]
          | inr past ↦
              let none = get_or_past clocks b.thread [] past in
              let zero_ahead : ahead clocks b a.thread ≡ 0 = ap (λ r. slice_index (slice_index_or r b.index []) a.thread) none in
              absurd (omega arith)
        ]

    pub orders : OrdersBy lists clocks
    orders a b = (
      λ true_that.
          let h : a.index < ahead clocks b a.thread = ltb-true a.index (ahead clocks b a.thread) true_that in
          let p = (clock_of b (counted_has a b h) a).0 h in
          (p.0, leads_weaker (LeadsTo steps) (IsStep lists) shows.back a p.0 b p.1),
      λ p.
          let q = precedes a b p in
          lt-ltb a.index (ahead clocks b a.thread) ((clock_of b (precedes_has steps a b q) a).1 q),
    )
