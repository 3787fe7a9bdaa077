-- How the clock of a segment is put together from those of the segments one step before it.
use Rattle.std.proofs.Common.{◌≡◌, ℕ, ◌+◌, ◌-◌, ◌<◌, ◌≤◌, ◌⊎◌, List, [], ◌∷◌, ◌++◌, length, max, Some, refl, sym, ap, subst, ◌∙◌, inl, inr, arith}
use Rattle.std.specs.Prelude.{slice_get, slice_index, slice_index_or, slice_set}
use Rattle.std.proofs.lemmas.Bool.{cases_eq, cases_lt}
use Rattle.std.proofs.lemmas.List.{length-set, get_or_past, get_or-set_same, get_or-set_other}
use Rattle.std.proofs.lemmas.Option.{same_Some, slice_get_read, slice_get_within}
use Rattle.gl_event.specs.declared.events.Segment.{Segment}
use Rattle.gl_segments.specs.declared.history.Growing.{Growing}
use Rattle.gl_segments.specs.declared.rows.Row.{Row}
use Rattle.gl_segments.specs.declared.rows.Row.TheVariants.{Waiting, Begun, Ended}
use Rattle.std.specs.Global.{Vec}
use Rattle.gl_segments.specs.bodies.Fronts.{IsFront}
use Rattle.gl_segments.specs.bodies.Histories.{IsNoted}
use Rattle.gl_segments.specs.bodies.Merging.{raised_to, IsMerged}
use Rattle.gl_segments.specs.bodies.Rows.{AreClocksBelow}
use Rattle.gl_segments.specs.bodies.Search.{Counts, IsClockOf, CountsSources}
use Rattle.gl_segments.specs.bodies.Sweeps.{IsPart, IsGrowing, RaisesFront}
use Rattle.gl_segments.specs.bodies.Tables.{Sources, steps_of_thread, Has, LeadsTo, Precedes, IsSound}
use Rattle.gl_segments.proofs.Chains.{precedes_cons, precedes_step, precedes_trans, precedes_inside, thread_inside}
use Rattle.gl_segments.proofs.Clocking.{complete, own_count, clocks_more}
use Rattle.gl_segments.proofs.Searching.{counts_cases, counts_more, counts_itself}

-- a segment by its parts
same_segment : (a b : Segment) → a.thread ≡ b.thread → a.index ≡ b.index → a ≡ b
same_segment a b thread index =
    ap (λ t. let x : Segment = record { thread = t; index = a.index } in x) thread ∙ ap (λ i. let x : Segment = record { thread = b.thread; index = i } in x) index

-- counts that were raised to a segment's, and further, count what they counted, and the segment
pub merged_counts : (now other new : List ℕ) (a : Segment) (n : ℕ) → a.thread < length now → IsMerged (raised_to now a) other new n → ((s : Segment) → Counts now s → Counts new s) × Counts new a
merged_counts now other new a n within merged =
    let most = max (slice_index now a.thread) (a.index + 1) in
    let here : slice_index (raised_to now a) a.thread ≡ most = get_or-set_same now a.thread most 0 within in (
      λ s counted.
          let kept = merged.kept s.thread in
          elim (cases_eq s.thread a.thread) [
            | inl same ↦
                let raised = ap (slice_index (raised_to now a)) same in
                let old = ap (slice_index now) same in
                omega arith
            | inr apart ↦
                let raised : slice_index (raised_to now a) s.thread ≡ slice_index now s.thread = get_or-set_other now a.thread s.thread most 0 apart in
                omega arith
          ],
      let kept = merged.kept a.thread in omega arith,
    )

waiting_counts : Row → List ℕ
waiting_counts (Waiting front) = front.items
waiting_counts (Begun growing) = []
waiting_counts (Ended history) = []

-- a row whose front was raised to a segment and its clock
pub front_raised : (old new : List Row) (thread : ℕ) (from : Segment) (clock raised : List ℕ) (front counts : Vec ℕ) (n : ℕ) → slice_get old thread ≡ Some (Waiting front) → new ≡ slice_set old thread (Waiting counts) → from.thread < length clock
    → n ≡ length front.items → IsMerged (slice_set clock from.thread (from.index + 1)) front.items raised n → ((t : ℕ) → slice_index counts.items t ≡ slice_index raised t) → RaisesFront old new thread from
unfolding waiting_counts
front_raised old new thread from clock raised front counts n at set within all merged same =
    let there = slice_get_within old thread (Waiting front) at in
    let row : Row = Waiting counts in
    let read : slice_get (slice_set old thread row) thread ≡ Some row
    = slice_get_read (slice_set old thread row) (length (slice_set old thread row)) thread row refl (let l = length-set old thread row in omega arith) (sym (get_or-set_same old thread row row there)) in
    let now : slice_get new thread ≡ Some row = ap (λ rows. slice_get rows thread) set ∙ read in
    record {
      kept = λ s was.
          let is : was.0.items ≡ front.items = ap waiting_counts (same_Some (Waiting was.0) (Waiting front) (sym was.1 ∙ at)) in
          let before : Counts front.items s = subst (λ xs. Counts xs s) is was.2 in
          let e = same s.thread in
          let has : Counts counts.items s =
          elim (cases_lt s.thread n) [
            | inl has ↦ let c = merged.covers s.thread has in omega arith
            | inr past ↦ let none = get_or_past front.items s.thread 0 (omega arith) in omega arith
          ] in
          (counts, now, has);
      counted = λ _ _.
          let e = same from.thread in
          let k = merged.kept from.thread in
          let here = get_or-set_same clock from.thread (from.index + 1) 0 within in
          (counts, now, omega arith);
    }

-- the items before i have it, and so has the one at i
pub so_far_more : (P : Segment → Type 0) (items : List Segment) (i : ℕ) (a : Segment) → i < length items → a ≡ slice_index_or items i a → ((k : ℕ) (s : Segment) → k < i → slice_get items k ≡ Some s → P s) → P a
    → (k : ℕ) (s : Segment) → k < i + 1 → slice_get items k ≡ Some s → P s
so_far_more P items i a within is before has k s below at =
    elim (cases_lt k i) [
      | inl earlier ↦ before k s earlier at
      | inr last ↦
          let place : k ≡ i = omega arith in
          let here : slice_get items i ≡ Some a = slice_get_read items (length items) i a refl within is in
          subst P (sym (same_Some s a (sym at ∙ ap (slice_get items) place ∙ here))) has
    ]

module _ (steps : Sources) (sound : IsSound steps) where
  module _ (clock : List ℕ) (a : Segment) (has : Has steps a) (is : IsClockOf steps clock a) (apart : Counts clock a → ⊥) where
    own_is : slice_index clock a.thread ≡ a.index
    own_is = own_count steps sound clock a.thread a.index has is apart

    -- what is one step before that is counted too
    pub up_to_closed : (x y : Segment) → Precedes steps x a ⊎ (x ≡ a) → LeadsTo steps y x → Precedes steps y a
    up_to_closed x y (inl before) step = precedes_cons steps y x a step before
    up_to_closed x y (inr same) step = precedes_step steps y a (subst (LeadsTo steps y) same step)

    -- a part of a clock that takes it in stays one
    pub part_merged : (now new : List ℕ) (n : ℕ) (target : Segment) → LeadsTo steps a target → IsPart steps now target → n ≡ length now → IsMerged (raised_to now a) clock new n → IsPart steps new target × ((x : Segment) → Counts now x → Counts new x) × Counts new a
    part_merged now new n target step part all merged =
        let a_within : a.thread < length now = let w = thread_inside steps a has in let p = part.width in omega arith in
        let kept : (x : Segment) → Counts (raised_to now a) x → Counts new x = λ x counted. let k = merged.kept x.thread in omega arith in
        let covers : (x : Segment) → Precedes steps x a → Counts new x = λ x before.
        let counted = (is x).1 before in
        let x_within = thread_inside steps x (precedes_inside steps sound x a before) in
        let c = merged.covers x.thread (let p = part.width in omega arith) in
        omega arith in
        let itself : Counts new a = kept a (counts_itself steps sound target now a a_within) in
        let only : (x : Segment) → Counts new x → Counts now x ⊎ (Precedes steps x a ⊎ (x ≡ a)) = λ x counted.
        elim (merged.only x.thread) [
          | inl as_raised ↦
              elim (counts_cases steps sound target now a x a_within (let e = as_raised in omega arith)) [
                | inl old ↦ inl old
                | inr new_ones ↦
                    let same : x.thread ≡ a.thread = new_ones.0 in
                    let own : slice_index clock x.thread ≡ a.index = ap (slice_index clock) same ∙ own_is in
                    elim (cases_lt x.index a.index) [
                      | inl less ↦ inr (inl ((is x).0 (omega arith)))
                      | inr most ↦ inr (inr (same_segment x a same (let m = new_ones.2 in omega arith)))
                    ]
              ]
          | inr below ↦ inr (inl ((is x).0 (omega arith)))
        ] in
        let old_kept : (x : Segment) → Counts now x → Counts new x = λ x counted. kept x (counts_more steps sound target now a x a_within counted) in (
          record {
            width = merged.width ∙ length-set now a.thread (max (slice_index now a.thread) (a.index + 1)) ∙ part.width;
            before = λ x counted.
                elim (only x counted) [
                  | inl old ↦ part.before x old
                  | inr (inl before) ↦ precedes_trans steps x a target before (precedes_step steps a target step)
                  | inr (inr same) ↦ subst (λ s. Precedes steps s target) (sym same) (precedes_step steps a target step)
                ];
            closed = λ x counted y leads.
                elim (only x counted) [
                  | inl old ↦ old_kept y (part.closed x old y leads)
                  | inr at_most ↦ covers y (up_to_closed x y at_most leads)
                ];
          },
          old_kept,
          itself,
        )

    module _ (width : length clock ≡ length steps) where
      -- a clock of a segment that isn't before itself, with the segment itself
      abbrev with_itself : List ℕ
      with_itself = slice_set clock a.thread (a.index + 1)

      inside : a.thread < length clock
      inside = let w = thread_inside steps a has in omega arith

      -- counts that and what is before it
      pub up_to : (x : Segment) → Counts with_itself x → Precedes steps x a ⊎ (x ≡ a)
      up_to x counted =
          elim (cases_eq x.thread a.thread) [
            | inl same ↦
                let here : slice_index with_itself x.thread ≡ a.index + 1 = ap (slice_index with_itself) same ∙ get_or-set_same clock a.thread (a.index + 1) 0 inside in
                let own : slice_index clock x.thread ≡ a.index = ap (slice_index clock) same ∙ own_is in
                elim (cases_lt x.index a.index) [
                  | inl less ↦ inl ((is x).0 (omega arith))
                  | inr most ↦ inr (same_segment x a same (omega arith))
                ]
            | inr other ↦ inl ((is x).0 (subst (λ n. x.index < n) (get_or-set_other clock a.thread x.thread (a.index + 1) 0 other) counted))
          ]

      -- all of it
      pub up_to_back : (x : Segment) → Precedes steps x a ⊎ (x ≡ a) → Counts with_itself x
      up_to_back x (inl before) =
          let counted = (is x).1 before in
          elim (cases_eq x.thread a.thread) [
            | inl same ↦
                let here : slice_index with_itself x.thread ≡ a.index + 1 = ap (slice_index with_itself) same ∙ get_or-set_same clock a.thread (a.index + 1) 0 inside in
                let own : slice_index clock x.thread ≡ a.index = ap (slice_index clock) same ∙ own_is in
                omega arith
            | inr other ↦ subst (λ n. x.index < n) (sym (get_or-set_other clock a.thread x.thread (a.index + 1) 0 other)) counted
          ]
      up_to_back x (inr same) =
          let thread = ap (λ (s : Segment). s.thread) same in
          let index = ap (λ (s : Segment). s.index) same in
          let here : slice_index with_itself x.thread ≡ a.index + 1 = ap (slice_index with_itself) thread ∙ get_or-set_same clock a.thread (a.index + 1) 0 inside in
          omega arith

      -- it is a part of the clock of a segment one step after it
      pub part_after : (target : Segment) → LeadsTo steps a target → IsPart steps with_itself target
      part_after target step = record {
        width = length-set clock a.thread (a.index + 1) ∙ width;
        before = λ x counted.
            elim (up_to x counted) [
              | inl before ↦ precedes_trans steps x a target before (precedes_step steps a target step)
              | inr same ↦ subst (λ s. Precedes steps s target) (sym same) (precedes_step steps a target step)
            ];
        closed = λ x counted y leads. up_to_back y (inl (up_to_closed x y (up_to x counted) leads));
      }

      -- the counts of a front that takes it in are one
      pub front_merged : (front new counts : List ℕ) (n : ℕ) (target : Segment) → LeadsTo steps a target → IsFront steps front target → n ≡ length front → IsMerged with_itself front new n
          → length counts ≤ length new → ((k : ℕ) → slice_index counts k ≡ slice_index new k) → IsFront steps counts target
      front_merged front new counts n target step old all merged short same =
          let only : (x : Segment) → Counts counts x → (Precedes steps x a ⊎ (x ≡ a)) ⊎ Counts front x = λ x counted.
          let e = same x.thread in
          elim (merged.only x.thread) [
            | inl as_clock ↦ inl (up_to x (omega arith))
            | inr below ↦ inr (omega arith)
          ] in
          let from_clock : (x : Segment) → Precedes steps x a ⊎ (x ≡ a) → Counts counts x = λ x at_most.
          let c = up_to_back x at_most in
          let k = merged.kept x.thread in
          let e = same x.thread in
          omega arith in
          let from_front : (x : Segment) → Counts front x → Counts counts x = λ x counted.
          let f = front_within front x counted in
          let k = merged.covers x.thread (omega arith) in
          let e = same x.thread in
          omega arith in
          record {
            few = let w = merged.width ∙ length-set clock a.thread (a.index + 1) in omega arith;
            before = λ x counted.
                elim (only x counted) [
                  | inl (inl before) ↦ precedes_trans steps x a target before (precedes_step steps a target step)
                  | inl (inr is_a) ↦ subst (λ s. Precedes steps s target) (sym is_a) (precedes_step steps a target step)
                  | inr by_front ↦ old.before x by_front
                ];
            fresh = λ counted.
                elim (only target counted) [
                  | inl at_most ↦ apart ((is a).1 (up_to_closed target a at_most step))
                  | inr by_front ↦ old.fresh by_front
                ];
            closed = λ x counted y leads.
                elim (only x counted) [
                  | inl at_most ↦ from_clock y (inl (up_to_closed x y at_most leads))
                  | inr by_front ↦ from_front y (old.closed x by_front y leads)
                ];
          }
        where
          front_within : (front : List ℕ) (x : Segment) → Counts front x → x.thread < length front
          front_within front x counted =
              elim (cases_lt x.thread (length front)) [
                | inl below ↦ below
                | inr past ↦ absurd (let none = get_or_past front x.thread 0 past in omega arith)
              ]

  -- a part of a clock that counts all sources is the clock
  pub part_whole : (clock : List ℕ) (target : Segment) → IsPart steps clock target → CountsSources steps clock target → IsClockOf steps clock target
  part_whole clock target part all a = (part.before a, λ p. complete steps target clock all part.closed a p.0 p.1)

  -- one more clock of a thread
  pub growing_more : (thread : ℕ) (g : Growing) (clocks : List (List ℕ)) (n : ℕ) (clock : List ℕ) → g.thread ≡ thread → g.segments ≡ n + 1 → g.latest ≡ clock → n < length (steps_of_thread steps thread)
      → IsNoted g (clocks ++ clock ∷ []) → AreClocksBelow steps thread clocks n → length clock ≡ length steps
      → IsClockOf steps clock (record { thread = thread; index = n }) → (Counts clock (record { thread = thread; index = n }) → ⊥) → IsGrowing steps thread g
  growing_more thread g clocks n clock same more latest below noted so_far width is apart = record {
    same_thread = same;
    width = ap length latest ∙ width;
    begun = omega arith;
    within = omega arith;
    clocks = (clocks ++ clock ∷ [], noted, rw more (clocks_more steps thread clocks n clock is apart so_far));
    latest =
        let last : n ≡ g.segments - 1 = omega arith in
        subst (λ c. IsClockOf steps c (record { thread = thread; index = g.segments - 1 })) (sym latest) (subst (λ i. IsClockOf steps clock (record { thread = thread; index = i })) last is);
  }

  -- the last clock of a thread, with its segment, is a part of the next one
  pub part_next : (thread : ℕ) (g : Growing) → IsGrowing steps thread g → g.segments < length (steps_of_thread steps thread) → IsPart steps (slice_set g.latest thread g.segments) (record { thread = thread; index = g.segments })
  part_next thread g growing below =
      let last : Segment = record { thread = thread; index = g.segments - 1 } in
      let next : Segment = record { thread = thread; index = g.segments } in
      let begun = growing.begun in
      let one_later : g.segments ≡ g.segments - 1 + 1 = omega arith in
      let has : Has steps last = omega arith in
      let apart : Counts g.latest last → ⊥ = λ counted. growing.clocks.2.apart (g.segments - 1) (omega arith) ((growing.latest last).0 counted) in
      let part = part_after g.latest last has growing.latest apart growing.width next (sound.next last next below refl one_later) in
      subst (λ n. IsPart steps (slice_set g.latest thread n) next) (sym one_later) part

-- the last segment with a clock isn't before itself
pub last_apart : (steps : Sources) (thread n : ℕ) (g : Growing) → IsGrowing steps thread g → g.segments ≡ n + 1 → Counts g.latest (record { thread = thread; index = n }) → ⊥
last_apart steps thread n g growing more counted =
    let last : g.segments - 1 ≡ n = omega arith in
    let is : IsClockOf steps g.latest (record { thread = thread; index = n }) = subst (λ i. IsClockOf steps g.latest (record { thread = thread; index = i })) last growing.latest in
    growing.clocks.2.apart n (omega arith) ((is (record { thread = thread; index = n })).0 counted)
