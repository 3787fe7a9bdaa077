-- What a search that has looked at all it found says: the clock, or the ring.
use Rattle.std.proofs.Common.{◌≡◌, ℕ, zero, suc, ◌+◌, ◌<◌, List, [], ◌∷◌, ◌++◌, length, replicate, Some, refl, sym, ap, subst, ◌∙◌, inl, inr, arith}
use Rattle.std.specs.Prelude.{slice_get, slice_index}
use Rattle.std.proofs.lemmas.Bool.{cases_lt}
use Rattle.std.proofs.lemmas.List.{length_push, get_or_append_left, get_or_push}
use Rattle.std.proofs.lemmas.Option.{same_Some, slice_get_within}
use Rattle.gl_event.specs.declared.events.Segment.{Segment}
use Rattle.gl_segments.specs.declared.search.Link.{Link}
use Rattle.gl_segments.specs.Segments.{Leads}
use Rattle.gl_segments.specs.bodies.Tables.{Sources, Has, LeadsTo, Precedes, IsSound}
use Rattle.gl_segments.specs.bodies.Search.{Counts, IsClockOf, CountsSources, MayStart, AreLinks, Explores, FollowsLinks}
use Rattle.gl_segments.specs.bodies.Rows.{AreClocksBelow}
use Rattle.gl_segments.proofs.Chains.{precedes_cons, precedes_step, precedes_trans}

-- a clock that counts the sources of the target and of what it counts counts all that is before the target
pub complete : (steps : Sources) (target : Segment) (clock : List ℕ) → CountsSources steps clock target → ((s : Segment) → Counts clock s → CountsSources steps clock s)
    → (a : Segment) (via : List Segment) → Leads (LeadsTo steps) a via target → Counts clock a
complete steps target clock first closed a [] h = first a h
complete steps target clock first closed a (c ∷ via) h = closed c (complete steps target clock first closed c via h.1) a h.0

-- the clock at the end of a search is the target's
pub explored_clock : (steps : Sources) (target : Segment) (clock : List ℕ) (found : List Link) → Explores steps target clock found (length found) → IsClockOf steps clock target
explored_clock steps target clock found done =
    let begins = done.links.begins in
    let first : CountsSources steps clock target = subst (CountsSources steps clock) begins.2 (done.looked 0 begins.0 (slice_get_within found 0 begins.0 begins.1) begins.1) in
    let closed : (s : Segment) → Counts clock s → CountsSources steps clock s = λ s counted.
    elim (done.known s counted) [
      | inl all ↦ all
      | inr f ↦ subst (CountsSources steps clock) f.4 (done.looked f.0 f.1 (slice_get_within found f.0 f.1 f.3) f.3)
    ] in
    λ a. (done.before a, λ p. complete steps target clock first closed a p.0 p.1)

-- from a segment that isn't before itself the search goes on to its thread's next one
pub may_start_next : (steps : Sources) → IsSound steps → (clock : List ℕ) (s t : Segment) → length clock ≡ length steps → IsClockOf steps clock s → (Counts clock s → ⊥)
    → t.thread ≡ s.thread → t.index ≡ s.index + 1 → Has steps t → MayStart steps clock t
may_start_next steps sound clock s t width is apart thread index has = record {
  width = width;
  before = λ a counted. precedes_trans steps a s t ((is a).0 counted) (precedes_step steps s t (sound.next s t has thread index));
  fresh = λ counted. apart (let same = ap (slice_index clock) thread in omega arith);
  closed = λ b counted a step. (is a).1 (precedes_cons steps a b s step ((is b).0 counted));
}

-- a clock of zeros counts nothing
pub none_counted : (n t : ℕ) → slice_index (replicate n 0) t ≡ 0
none_counted zero t = refl
none_counted (suc n) zero = refl
none_counted (suc n) (suc t) = none_counted n t

-- nothing follows the first entry
no_links : (found : List Link) (rest : List Segment) → FollowsLinks found 0 rest → rest ≡ []
no_links found [] h = refl
no_links found (s ∷ rest) h = absurd (omega (arith, h.1))

-- a ring along links: what follows them from an entry is a chain of steps to the target
pub chain_of_links : (steps : Sources) (target : Segment) (found : List Link) → AreLinks steps target found → (ring : List Segment) (k : ℕ) (l : Link) → 0 < k → slice_get found k ≡ Some l → FollowsLinks found k ring
    → (via : List Segment) × (ring ≡ l.segment ∷ via) × Leads (LeadsTo steps) l.segment via target
chain_of_links steps target found links [] k l pos at h = absurd (omega (arith, h))
chain_of_links steps target found links (s ∷ rest) k l pos at h =
    let same : h.0 ≡ l = same_Some h.0 l (sym h.2 ∙ at) in
    let starts : s ≡ l.segment = sym h.3 ∙ ap (λ y. y.segment) same in
    let follows : FollowsLinks found l.next rest = subst (λ y. FollowsLinks found y.next rest) same h.4 in
    let link = links.linked k l pos at in
    let m = link.1.0 in
    elim (cases_lt 0 l.next) [
      | inl later ↦
          let r = chain_of_links steps target found links rest l.next m later link.1.1 follows in
          (m.segment ∷ r.0, ap (λ y. y ∷ rest) starts ∙ ap (λ xs. l.segment ∷ xs) r.1, (link.1.2, r.2))
      | inr last ↦
          let zero_next : l.next ≡ 0 = omega arith in
          let none : rest ≡ [] = no_links found rest (subst (λ n. FollowsLinks found n rest) zero_next follows) in
          let root : m ≡ links.begins.0 = same_Some m links.begins.0 (sym link.1.1 ∙ ap (slice_get found) zero_next ∙ links.begins.1) in
          let is : m.segment ≡ target = ap (λ y. y.segment) root ∙ links.begins.2 in
          ([], ap (λ y. y ∷ rest) starts ∙ ap (λ xs. l.segment ∷ xs) none, subst (LeadsTo steps l.segment) is link.1.2)
    ]

-- exactly the earlier segments of the thread itself are before a segment that isn't before itself
pub own_count : (steps : Sources) → IsSound steps → (clock : List ℕ) (thread index : ℕ) → Has steps (record { thread = thread; index = index }) → IsClockOf steps clock (record { thread = thread; index = index })
    → (Counts clock (record { thread = thread; index = index }) → ⊥) → slice_index clock thread ≡ index
own_count steps sound clock thread zero has is apart = omega (arith, apart)
own_count steps sound clock thread (suc index) has is apart =
    let earlier : Segment = record { thread = thread; index = index } in
    let this : Segment = record { thread = thread; index = suc index } in
    let step : LeadsTo steps earlier this = sound.next earlier this has refl (let one : suc index ≡ index + 1 = omega arith in one) in
    let counted : Counts clock earlier = (is earlier).1 ([], step) in
    omega (arith, apart)

-- one more clock of a thread
pub clocks_more : (steps : Sources) (thread : ℕ) (clocks : List (List ℕ)) (n : ℕ) (clock : List ℕ) → IsClockOf steps clock (record { thread = thread; index = n })
    → (Counts clock (record { thread = thread; index = n }) → ⊥) → AreClocksBelow steps thread clocks n → AreClocksBelow steps thread (clocks ++ clock ∷ []) (n + 1)
clocks_more steps thread clocks n clock is apart so_far = record {
  size = length_push clocks clock ∙ ap (λ k. k + 1) so_far.size;
  each = λ i below.
      elim (cases_lt i n) [
        | inl lower ↦ subst (λ c. IsClockOf steps c (record { thread = thread; index = i })) (sym (get_or_append_left clocks (clock ∷ []) [] i (let s = so_far.size in omega arith))) (so_far.each i lower)
        | inr upper ↦
            let last : n ≡ i = omega arith in
            subst (λ c. IsClockOf steps c (record { thread = thread; index = i })) (sym (get_or_push clocks clock [] i (so_far.size ∙ last))) (subst (λ k. IsClockOf steps clock (record { thread = thread; index = k })) last is)
      ];
  apart = λ i below p.
      elim (cases_lt i n) [
        | inl lower ↦ so_far.apart i lower p
        | inr upper ↦
            let last : i ≡ n = omega arith in
            let q : Precedes steps (record { thread = thread; index = n }) (record { thread = thread; index = n }) = subst (λ k. Precedes steps (record { thread = thread; index = k }) (record { thread = thread; index = k })) last p in
            apart ((is (record { thread = thread; index = n })).1 q)
      ];
}
