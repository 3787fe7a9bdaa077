-- What growths tell as clocks come one by one.
use Rattle.std.proofs.Common.{◌≡◌, ◌≢◌, ℕ, ◌+◌, ◌-◌, ◌<◌, ◌≤◌, Bool, true, false, cond, List, [], ◌∷◌, ◌++◌, length, replicate, Some, refl, sym, ap, subst, ◌∙◌, ◌⊎◌, inl, inr, arith}
use Rattle.std.specs.Prelude.{All, filter, slice_get, slice_index, slice_index_or, slice_set}
use Rattle.std.proofs.lemmas.Bool.{cases_eq, cases_lt}
use Rattle.std.proofs.lemmas.List.{length_push, append-nil, get_or_append_left, get_or_push, get_or-set_other, length-set}
use Rattle.std.proofs.lemmas.Option.{same_Some, slice_get_within}
use Rattle.std.proofs.lemmas.Grind.{get_or-set_at}
use Rattle.std.proofs.lemmas.List.Elements.{filter-append, All-nil, All-head, All-tail, All-push, All-weaker}
use Rattle.std.proofs.lemmas.List.Sorted.{IsNonDecreasingBy-push}
use Rattle.gl_segments.specs.declared.growths.Growth.{Growth}
use Rattle.gl_segments.specs.declared.search.Link.{Link}
use Rattle.gl_segments.specs.bodies.Search.{GrowsBy}
use Rattle.gl_segments.proofs.Clocking.{none_counted}
use Rattle.gl_segments.proofs.Tabulating.{tabulated_is}
use Rattle.gl_segments.specs.bodies.Histories.{is_past, last_count, count_at, Tells}

-- the count of the last growth
last_push : (first : ℕ) (gs : List Growth) (g : Growth) → last_count first (gs ++ g ∷ []) ≡ g.count
last_push first [] g = refl
last_push first (x ∷ gs) g = last_push x.count gs g

-- tests that agree on a list keep the same of it
filter_same : (p q : Growth → Bool) (gs : List Growth) → All (λ g. p g ≡ q g) gs → filter p gs ≡ filter q gs
filter_same p q [] same = refl
filter_same p q (g ∷ gs) same =
    let here = All-head (λ x. p x ≡ q x) g gs same in
    let rest = filter_same p q gs (All-tail (λ x. p x ≡ q x) g gs same) in
    rw (here, rest)

-- one more growth, that doesn't count here
pub count_other : (first : ℕ) (gs : List Growth) (g : Growth) (index thread : ℕ) → is_past index thread g ≡ false → count_at first (gs ++ g ∷ []) index thread ≡ count_at first gs index thread
unfolding count_at
count_other first gs g index thread not_past =
    let p = is_past index thread in
    let none : filter p (g ∷ []) ≡ [] = ap (λ b. cond b (g ∷ []) []) not_past in
    ap (last_count first) (filter-append p gs (g ∷ []) ∙ ap (λ ys. filter p gs ++ ys) none ∙ append-nil (filter p gs))

-- one more growth, that does
pub count_this : (first : ℕ) (gs : List Growth) (g : Growth) (index thread : ℕ) → is_past index thread g ≡ true → count_at first (gs ++ g ∷ []) index thread ≡ g.count
unfolding count_at
count_this first gs g index thread past =
    let p = is_past index thread in
    let one : filter p (g ∷ []) ≡ g ∷ [] = ap (λ b. cond b (g ∷ []) []) past in
    ap (last_count first) (filter-append p gs (g ∷ []) ∙ ap (λ ys. filter p gs ++ ys) one) ∙ last_push first (filter p gs) g

-- no growths
pub count_none : (first index thread : ℕ) → count_at first [] index thread ≡ first
unfolding count_at
count_none first index thread = refl

-- where no growth is from later than n, the counts stay
count_later : (first : ℕ) (gs : List Growth) (n thread : ℕ) → All (λ g. g.from ≤ n) gs → count_at first gs (n + 1) thread ≡ count_at first gs n thread
unfolding count_at
count_later first gs n thread until =
    ap (last_count first) (filter_same (is_past (n + 1) thread) (is_past n thread) gs (All-weaker (λ g. g.from ≤ n) _ (λ g h. both_past g n thread h) gs until))
  where
    both_past : (g : Growth) (n thread : ℕ) → g.from ≤ n → is_past (n + 1) thread g ≡ is_past n thread g
    both_past g n thread h = grind arith

earlier_not : (g : Growth) (index thread : ℕ) → index < g.from → is_past index thread g ≡ false
earlier_not g index thread h = grind arith

other_not : (g : Growth) (index thread : ℕ) → g.thread ≢ thread → is_past index thread g ≡ false
other_not g index thread h = grind arith

this_is : (g : Growth) (index thread : ℕ) → g.from ≤ index → g.thread ≡ thread → is_past index thread g ≡ true
this_is g index thread h same = grind arith

-- a growth from the next segment on
pub tells_growth : (own : ℕ) (first : List ℕ) (gs : List Growth) (latest : List ℕ) (clocks : List (List ℕ)) (g : Growth) → 0 < length clocks → g.from ≡ length clocks → g.thread < length latest
    → Tells own first gs latest clocks → Tells own first (gs ++ g ∷ []) (slice_set latest g.thread g.count) clocks
tells_growth own first gs latest clocks g some from within told = record {
  each = λ index thread below other. count_other (slice_index first thread) gs g index thread (earlier_not g index thread (omega arith)) ∙ told.each index thread below other;
  now = λ thread other.
      elim (cases_eq thread g.thread) [
        | inl same ↦
            count_this (slice_index first thread) gs g (length clocks) thread (this_is g (length clocks) thread (omega arith) (sym same))
            ∙ sym (get_or-set_at latest g.thread thread g.count 0 same within)
        | inr apart ↦
            count_other (slice_index first thread) gs g (length clocks) thread (other_not g (length clocks) thread (λ same. apart (sym same))) ∙ told.now thread other
            ∙ sym (get_or-set_other latest g.thread thread g.count 0 apart)
      ];
  until = All-push (λ x. x.from ≤ length clocks) gs g told.until (omega arith);
  rising = IsNonDecreasingBy-push (λ x. x.from) gs g told.rising (λ d any. let last = told.until (length gs - 1) d (omega arith) in omega arith);
  begins = λ none. absurd (omega arith);
  widths = λ index below. told.widths index below ∙ sym (length-set latest g.thread g.count);
  own_counts = told.own_counts;
}

-- the thread's own count has no growths
pub tells_own : (own : ℕ) (first : List ℕ) (gs : List Growth) (latest : List ℕ) (clocks : List (List ℕ)) (count : ℕ) → Tells own first gs latest clocks → Tells own first gs (slice_set latest own count) clocks
tells_own own first gs latest clocks count told = record {
  each = told.each;
  now = λ thread other. told.now thread other ∙ sym (get_or-set_other latest own thread count 0 other);
  until = told.until;
  rising = told.rising;
  begins = told.begins;
  widths = λ index below. told.widths index below ∙ sym (length-set latest own count);
  own_counts = told.own_counts;
}

-- where the latest counts are a clock, it comes next
pub tells_next : (own : ℕ) (first : List ℕ) (gs : List Growth) (latest : List ℕ) (clocks : List (List ℕ)) → slice_index latest own ≡ length clocks → Tells own first gs latest clocks
    → Tells own first gs latest (clocks ++ latest ∷ [])
tells_next own first gs latest clocks counts_own told =
    let longer = length_push clocks latest in
    let old : (index : ℕ) → index < length clocks → slice_index_or (clocks ++ latest ∷ []) index [] ≡ slice_index_or clocks index [] = λ index below. get_or_append_left clocks (latest ∷ []) [] index below in
    let new : (index : ℕ) → length clocks ≡ index → slice_index_or (clocks ++ latest ∷ []) index [] ≡ latest = λ index is. get_or_push clocks latest [] index is in
    record {
      each = λ index thread below other.
          elim (cases_lt index (length clocks)) [
            | inl lower ↦ told.each index thread lower other ∙ ap (λ c. slice_index c thread) (sym (old index lower))
            | inr upper ↦
                let last : length clocks ≡ index = omega arith in
                subst (λ n. count_at (slice_index first thread) gs n thread ≡ slice_index latest thread) last (told.now thread other) ∙ ap (λ c. slice_index c thread) (sym (new index last))
          ];
      now = λ thread other. rw longer (count_later (slice_index first thread) gs (length clocks) thread told.until ∙ told.now thread other);
      until = All-weaker (λ g. g.from ≤ length clocks) (λ g. g.from ≤ length (clocks ++ latest ∷ [])) (λ g h. omega arith) gs told.until;
      rising = told.rising;
      begins = λ none. absurd (omega arith);
      widths = λ index below.
          elim (cases_lt index (length clocks)) [
            | inl lower ↦ ap length (old index lower) ∙ told.widths index lower
            | inr upper ↦ ap length (new index (omega arith))
          ];
      own_counts = λ index below.
          elim (cases_lt index (length clocks)) [
            | inl lower ↦ ap (λ c. slice_index c own) (old index lower) ∙ told.own_counts index lower
            | inr upper ↦ let last : length clocks ≡ index = omega arith in ap (λ c. slice_index c own) (new index last) ∙ counts_own ∙ last
          ];
    }

-- before there are clocks, the counts of the first one may be put in
pub tells_first : (own : ℕ) (first old : List ℕ) (gs : List Growth) (latest zeros : List ℕ) (clocks : List (List ℕ)) → length clocks ≡ 0 → ((thread : ℕ) → slice_index first thread ≡ slice_index latest thread)
    → Tells own old gs zeros clocks → Tells own first gs latest clocks
tells_first own first old gs latest zeros clocks none same told =
    let empty : gs ≡ [] = told.begins none in
    record {
      each = λ index thread below other. absurd (omega arith);
      now = λ thread other. ap (λ xs. count_at (slice_index first thread) xs (length clocks) thread) empty ∙ count_none (slice_index first thread) (length clocks) thread ∙ same thread;
      until = told.until;
      rising = told.rising;
      begins = told.begins;
      widths = λ index below. absurd (omega arith);
      own_counts = λ index below. absurd (omega arith);
    }

-- no clocks
pub tells_none : (own threads : ℕ) (first : List ℕ) (gs : List Growth) → first ≡ [] → gs ≡ [] → Tells own first gs (replicate threads 0) []
tells_none own threads first gs no_first no_growths = record {
  each = λ index thread below other. absurd (omega arith);
  now = λ thread other. rw (no_first, no_growths) (count_none 0 0 thread ∙ sym (none_counted threads thread));
  until = rw no_growths (All-nil (λ g. g.from ≤ 0));
  rising = rw no_growths (λ i j d le below. absurd (omega arith));
  begins = λ none. no_growths;
  widths = λ index below. absurd (omega arith);
  own_counts = λ index below. absurd (omega arith);
}

-- of the threads of the first n entries the latest counts are the clock's
abbrev pub AreCounted : List Link → List ℕ → List ℕ → ℕ → Type 0
AreCounted found latest clock n = (k : ℕ) (x : Link) → k < n → slice_get found k ≡ Some x → slice_index latest x.segment.thread ≡ slice_index clock x.segment.thread

-- each of the latest counts is the clock's or the old one
abbrev pub AreEither : List ℕ → List ℕ → List ℕ → Type 0
AreEither old latest clock = (thread : ℕ) → (slice_index latest thread ≡ slice_index clock thread) ⊎ (slice_index latest thread ≡ slice_index old thread)

-- one more count is the clock's
pub counted_more : (found : List Link) (latest clock : List ℕ) (n : ℕ) (link : Link) → slice_get found n ≡ Some link → link.segment.thread < length latest → AreCounted found latest clock n
    → AreCounted found (slice_set latest link.segment.thread (slice_index clock link.segment.thread)) clock (n + 1)
counted_more found latest clock n link at within so_far k x below here =
    let thread = link.segment.thread in
    elim (cases_eq x.segment.thread thread) [
      | inl same ↦ get_or-set_at latest thread x.segment.thread (slice_index clock thread) 0 same within ∙ ap (slice_index clock) (sym same)
      | inr apart ↦
          get_or-set_other latest thread x.segment.thread (slice_index clock thread) 0 apart
          ∙ elim (cases_lt k n) [
            | inl lower ↦ so_far k x lower here
            | inr upper ↦
                let last : k ≡ n = omega arith in
                absurd (apart (ap (λ (l : Link). l.segment.thread) (same_Some x link (sym here ∙ ap (slice_get found) last ∙ at))))
          ]
    ]

-- the others stay as they were
pub either_more : (old latest clock : List ℕ) (t : ℕ) → t < length latest → AreEither old latest clock → AreEither old (slice_set latest t (slice_index clock t)) clock
either_more old latest clock t within so_far thread =
    elim (cases_eq thread t) [
      | inl same ↦ inl (get_or-set_at latest t thread (slice_index clock t) 0 same within ∙ ap (slice_index clock) (sym same))
      | inr apart ↦
          let kept = get_or-set_other latest t thread (slice_index clock t) 0 apart in
          elim (so_far thread) [
            | inl is ↦ inl (kept ∙ is)
            | inr was ↦ inr (kept ∙ was)
          ]
    ]

-- once all entries were counted, the latest counts are the clock
pub latest_is : (old latest clock : List ℕ) (found : List Link) (n : ℕ) → length found ≤ n → length latest ≡ length clock → GrowsBy old found clock → AreCounted found latest clock n → AreEither old latest clock → latest ≡ clock
latest_is old latest clock found n all size grown counted either =
    let each : (thread : ℕ) → slice_index latest thread ≡ slice_index clock thread = λ thread.
    elim (grown thread) [
      | inl same ↦
          elim (either thread) [
            | inl is ↦ is
            | inr was ↦ was ∙ sym same
          ]
      | inr (k, x, here, is) ↦ subst (λ t. slice_index latest t ≡ slice_index clock t) is (counted k x (let w = slice_get_within found k x here in omega arith) here)
    ] in
    sym (tabulated_is latest (λ i. slice_index clock i) 0 (length latest) refl (λ i below. sym (each i))) ∙ tabulated_is clock (λ i. slice_index clock i) 0 (length latest) (sym size) (λ i below. refl)
