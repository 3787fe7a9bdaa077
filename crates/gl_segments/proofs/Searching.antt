-- What a search backwards keeps.
use Rattle.std.proofs.Common.{◌≡◌, ℕ, zero, suc, ◌+◌, ◌-◌, ◌<◌, ◌≤◌, List, [], ◌∷◌, ◌++◌, length, get_or, set, max, Some, refl, sym, ap, subst, ◌∙◌, ◌⊎◌, inl, inr, arith}
use Rattle.std.specs.Prelude.{◌^◌, slice_get, slice_index, Contains}
use Rattle.std.proofs.lemmas.Bool.{cases_eq, cases_lt}
use Rattle.std.proofs.lemmas.List.{append-nil, append_assoc, length_push, length-append, length-set, get_or-set_same, get_or-set_other}
use Rattle.std.proofs.lemmas.Option.{same_Some, slice_get_within, slice_get_read, slice_get-get_or}
use Rattle.gl_event.specs.declared.events.Segment.{Segment}
use Rattle.gl_event.proofs.Depths.{slice_get_before, slice_get_last}
use Rattle.gl_segments.specs.declared.search.Link.{Link}
use Rattle.gl_segments.specs.bodies.Tables.{Sources, steps_of_thread, sources, Has, LeadsTo, Precedes, IsSound}
use Rattle.gl_segments.specs.bodies.Search.{Counts, IsFound, MayStart, AreLinks, Explores, IsAmong, HasThread, GrowsBy, links_back, unseen}
use Rattle.gl_segments.proofs.Chains.{precedes_cons, precedes_step, precedes_inside, thread_inside}

-- a place within a list that grew by one
place_cases : (n k : ℕ) → k < n + 1 → (k < n) ⊎ (k ≡ n)
place_cases n k h = grind arith

-- an element of the second of two lists
slice_get_after : {X : Type 0} (xs ys : List X) (k : ℕ) → slice_get (xs ++ ys) (length xs + k) ≡ slice_get ys k
slice_get_after [] ys k = let e : 0 + k ≡ k = omega arith in rw e refl
slice_get_after (x ∷ xs) ys k = let e : suc (length xs) + k ≡ suc (length xs + k) = omega arith in rw e (slice_get_after xs ys k)

module _ (steps : Sources) (sound : IsSound steps) (target : Segment) where
  -- an entry is the target or before it
  entry_precedes : (found : List Link) → AreLinks steps target found → (x : Segment) (k : ℕ) (m : Link) → slice_get found k ≡ Some m → LeadsTo steps x m.segment → Precedes steps x target
  entry_precedes found links x zero m at h =
      let same : m.segment ≡ target = ap (λ l. l.segment) (same_Some m links.begins.0 (sym at ∙ links.begins.1)) ∙ links.begins.2 in
      precedes_step steps x target (subst (LeadsTo steps x) same h)
  entry_precedes found links x (suc k) m at h = precedes_cons steps x m.segment target h (links.precedes (suc k) m (omega arith) at)

  -- one more entry, which is one step before an entry
  push_link : (found : List Link) → AreLinks steps target found → (x : Segment) (next : ℕ) (m : Link) → slice_get found next ≡ Some m → LeadsTo steps x m.segment
      → AreLinks steps target (found ++ record { segment = x; next = next } ∷ [])
  push_link found links x next m at h =
      let e : Link = record { segment = x; next = next } in
      let within : next < length found = slice_get_within found next m at in
      record {
        begins = (links.begins.0, slice_get_before found (e ∷ []) 0 (omega arith) ∙ links.begins.1, links.begins.2);
        linked = λ k l pos here.
            elim (place_cases (length found) k (let w = slice_get_within _ k l here in omega (arith, length_push found e))) [
              | inl below ↦
                  let r = links.linked k l pos (sym (slice_get_before found (e ∷ []) k below) ∙ here) in
                  (r.0, (r.1.0, slice_get_before found (e ∷ []) l.next (omega arith) ∙ r.1.1, r.1.2))
              | inr is_last ↦
                  let this : l ≡ e = same_Some l e (sym here ∙ ap (slice_get (found ++ e ∷ [])) is_last ∙ slice_get_last found e) in
                  let next_is : l.next ≡ next = ap (λ y. y.next) this in
                  (omega arith, (m, ap (slice_get (found ++ e ∷ [])) next_is ∙ slice_get_before found (e ∷ []) next within ∙ at, subst (λ y. LeadsTo steps y.segment m.segment) (sym this) h))
            ];
        precedes = λ k l pos here.
            elim (place_cases (length found) k (let w = slice_get_within _ k l here in omega (arith, length_push found e))) [
              | inl below ↦ links.precedes k l pos (sym (slice_get_before found (e ∷ []) k below) ∙ here)
              | inr is_last ↦
                  let this : l ≡ e = same_Some l e (sym here ∙ ap (slice_get (found ++ e ∷ [])) is_last ∙ slice_get_last found e) in
                  subst (λ y. Precedes steps y.segment target) (sym this) (entry_precedes found links x next m at h)
            ];
      }

  -- the entries of several segments of one thread, downwards
  push_links : (n : ℕ) (found : List Link) → AreLinks steps target found → (s : Segment) (next : ℕ) (m : Link) → slice_get found next ≡ Some m → LeadsTo steps s m.segment → n ≤ s.index + 1
      → AreLinks steps target (found ++ links_back s next (length found) n)
  push_links zero found links s next m at h few = rw append-nil links
  push_links (suc zero) found links s next m at h few = push_link found links s next m at h
  push_links (suc (suc n)) found links s next m at h few =
      let e : Link = record { segment = s; next = next } in
      let before : Segment = record { thread = s.thread; index = s.index - 1 } in
      let one = push_link found links s next m at h in
      let step : LeadsTo steps before s = sound.next before s (sound.inside s m.segment h) refl (omega arith) in
      let rest = push_links (suc n) (found ++ e ∷ []) one before (length found) e (slice_get_last found e) step (omega arith) in
      let longer : length (found ++ e ∷ []) ≡ length found + 1 = length_push found e in
      let apart : (found ++ e ∷ []) ++ links_back before (length found) (length found + 1) (suc n) ≡ found ++ e ∷ links_back before (length found) (length found + 1) (suc n) = append_assoc found (e ∷ []) (links_back before (length found) (length found + 1) (suc n)) in
      subst (AreLinks steps target) apart (subst (λ p. AreLinks steps target ((found ++ e ∷ []) ++ links_back before (length found) p (suc n))) longer rest)

-- as many links as segments
pub length-links_back : (n : ℕ) (s : Segment) (next p : ℕ) → length (links_back s next p n) ≡ n
length-links_back zero s next p = refl
length-links_back (suc n) s next p = ap suc (length-links_back n (record { thread = s.thread; index = s.index - 1 }) p (p + 1))

-- the links have each of the segments
links_back_finds : (n : ℕ) (s : Segment) (next p j : ℕ) → j ≤ s.index → s.index + 1 ≤ j + n
    → (k : ℕ) × (l : Link) × (slice_get (links_back s next p n) k ≡ Some l) × (l.segment ≡ record { thread = s.thread; index = j })
links_back_finds zero s next p j low high = absurd (omega arith)
links_back_finds (suc n) s next p j low high =
    elim (cases_lt j s.index) [
      | inl below ↦
          let r = links_back_finds n (record { thread = s.thread; index = s.index - 1 }) p (p + 1) j (omega arith) (omega arith) in
          (suc r.0, r.1, r.2, r.3)
      | inr at_least ↦
          let same : s.index ≡ j = omega arith in
          (0, record { segment = s; next = next }, refl, ap (λ i. let x : Segment = record { thread = s.thread; index = i } in x) same)
    ]

-- a count that grows leaves that many fewer unseen
unseen-set : (steps : Sources) (clock : List ℕ) (t v : ℕ) → length clock ≡ length steps → t < length clock → slice_index clock t ≤ v → v ≤ length (steps_of_thread steps t)
    → unseen steps (set clock t v) + (v - slice_index clock t) ≡ unseen steps clock
unseen-set [] [] t v same within low high = absurd (omega arith)
unseen-set [] (c ∷ clock) t v same within low high = absurd (omega arith)
unseen-set (r ∷ steps) [] t v same within low high = absurd (omega arith)
unseen-set (r ∷ steps) (c ∷ clock) zero v same within low high = omega arith
unseen-set (r ∷ steps) (c ∷ clock) (suc t) v same within low high = let e = unseen-set steps clock t v (omega arith) (omega arith) low high in omega arith

-- one more link from what is still to be linked
pub reach_more : (found total : List Link) (thread index known next : ℕ) → known < index
    → found ++ links_back (record { thread = thread; index = index - 1 }) next (length found) (index - known) ≡ total
    → (found ++ record { segment = record { thread = thread; index = index - 1 }; next = next } ∷ [])
    ++ links_back (record { thread = thread; index = index - 1 - 1 }) (length found) (length (found ++ record { segment = record { thread = thread; index = index - 1 }; next = next } ∷ [])) (index - 1 - known) ≡ total
reach_more found total thread index known next some rest =
    let s : Segment = record { thread = thread; index = index - 1 } in
    let e : Link = record { segment = s; next = next } in
    let count : index - known ≡ suc (index - 1 - known) = omega arith in
    let first : found ++ e ∷ links_back (record { thread = thread; index = index - 1 - 1 }) (length found) (length found + 1) (index - 1 - known) ≡ total
    = sym (ap (λ n. found ++ links_back s next (length found) n) count) ∙ rest in
    rw (length_push, append_assoc) first

module _ (steps : Sources) (sound : IsSound steps) (target : Segment) where
  -- what the clock counts once a segment and those before it of its thread are counted too
  abbrev pub raised : List ℕ → Segment → List ℕ
  raised clock a = set clock a.thread (max (slice_index clock a.thread) (a.index + 1))

  -- what is counted was counted before, or is new
  pub counts_cases : (clock : List ℕ) (a s : Segment) → a.thread < length clock → Counts (raised clock a) s
      → Counts clock s ⊎ ((s.thread ≡ a.thread) × (slice_index clock a.thread ≤ s.index) × (s.index ≤ a.index))
  counts_cases clock a s within h =
      elim (cases_eq s.thread a.thread) [
        | inl same ↦
            let now : slice_index (raised clock a) s.thread ≡ max (slice_index clock a.thread) (a.index + 1) = ap (slice_index (raised clock a)) same ∙ get_or-set_same clock a.thread _ 0 within in
            elim (cases_lt s.index (slice_index clock a.thread)) [
              | inl below ↦ inl (subst (λ t. s.index < slice_index clock t) (sym same) below)
              | inr above ↦ inr (same, above, omega arith)
            ]
        | inr other ↦ inl (subst (λ n. s.index < n) (get_or-set_other clock a.thread s.thread _ 0 other) h)
      ]

  -- an entry of a thread stays
  thread_more : (found more : List Link) (thread : ℕ) → HasThread found thread → HasThread (found ++ more) thread
  thread_more found more thread (k, l, here, is) = (k, l, slice_get_before found more k (slice_get_within found k l here) ∙ here, is)

  -- where the count of a thread grows, there is an entry of it
  pub reach_grows : (start clock : List ℕ) (found : List Link) (at : ℕ) (a : Segment) → a.thread < length clock → GrowsBy start found clock
      → GrowsBy start (found ++ links_back a at (length found) (a.index + 1 - slice_index clock a.thread)) (raised clock a)
  reach_grows start clock found at a within so_far thread =
      let more : List Link = links_back a at (length found) (a.index + 1 - slice_index clock a.thread) in
      let as_before : slice_index (raised clock a) thread ≡ slice_index clock thread → (slice_index (raised clock a) thread ≡ slice_index start thread) ⊎ HasThread (found ++ more) thread = λ same.
      elim (so_far thread) [
        | inl old ↦ inl (same ∙ old)
        | inr has ↦ inr (thread_more found more thread has)
      ] in
      elim (cases_eq thread a.thread) [
        | inl same ↦
            elim (cases_lt a.index (slice_index clock a.thread)) [
              | inl known ↦
                  let now : slice_index (raised clock a) thread ≡ max (slice_index clock a.thread) (a.index + 1) = ap (slice_index (raised clock a)) same ∙ get_or-set_same clock a.thread _ 0 within in
                  let old : slice_index clock thread ≡ slice_index clock a.thread = ap (slice_index clock) same in
                  as_before (omega arith)
              | inr new ↦
                  let r = links_back_finds (a.index + 1 - slice_index clock a.thread) a at (length found) a.index (omega arith) (omega arith) in
                  inr (length found + r.0, r.1, slice_get_after found more r.0 ∙ r.2, ap (λ s. s.thread) r.3 ∙ sym same)
            ]
        | inr other ↦ as_before (get_or-set_other clock a.thread thread _ 0 other)
      ]

  -- what was counted stays counted
  pub counts_more : (clock : List ℕ) (a s : Segment) → a.thread < length clock → Counts clock s → Counts (raised clock a) s
  counts_more clock a s within h =
      elim (cases_eq s.thread a.thread) [
        | inl same ↦
            let now : slice_index (raised clock a) s.thread ≡ max (slice_index clock a.thread) (a.index + 1) = ap (slice_index (raised clock a)) same ∙ get_or-set_same clock a.thread _ 0 within in
            let old : slice_index clock s.thread ≡ slice_index clock a.thread = ap (slice_index clock) same in
            omega arith
        | inr other ↦ subst (λ n. s.index < n) (sym (get_or-set_other clock a.thread s.thread _ 0 other)) h
      ]

  -- the segment is counted now
  pub counts_itself : (clock : List ℕ) (a : Segment) → a.thread < length clock → Counts (raised clock a) a
  counts_itself clock a within = let now = get_or-set_same clock a.thread (max (slice_index clock a.thread) (a.index + 1)) 0 within in omega arith

  -- what was found stays found
  found_more : (found more : List Link) (s : Segment) → IsFound found s → IsFound (found ++ more) s
  found_more found more s (k, l, pos, here, is) = (k, l, pos, slice_get_before found more k (slice_get_within found k l here) ∙ here, is)

  -- there is an entry
  links_some : (found : List Link) → AreLinks steps target found → 0 < length found
  links_some found links = slice_get_within found 0 links.begins.0 links.begins.1

  -- a segment one step before an entry is noted, with those of its thread before it
  pub reach_explores : (clock : List ℕ) (found : List Link) (at : ℕ) (m : Link) (a : Segment) → Explores steps target clock found at → slice_get found at ≡ Some m → LeadsTo steps a m.segment
      → Explores steps target (raised clock a) (found ++ links_back a at (length found) (a.index + 1 - slice_index clock a.thread)) at
  reach_explores clock found at m a so_far here step =
      let more : List Link = links_back a at (length found) (a.index + 1 - slice_index clock a.thread) in
      let has : Has steps a = sound.inside a m.segment step in
      let within : a.thread < length clock = omega (arith, thread_inside steps a has, so_far.width) in
      let links : AreLinks steps target (found ++ more) = push_links steps sound target (a.index + 1 - slice_index clock a.thread) found so_far.links a at m here step (omega arith) in
      let new_found : (s : Segment) → (s.thread ≡ a.thread) × (slice_index clock a.thread ≤ s.index) × (s.index ≤ a.index) → IsFound (found ++ more) s =
      λ s new.
      let r = links_back_finds (a.index + 1 - slice_index clock a.thread) a at (length found) s.index new.2 (omega arith) in
      let some = links_some found so_far.links in
      (length found + r.0, r.1, omega arith, slice_get_after found more r.0 ∙ r.2, r.3 ∙ ap (λ t. let x : Segment = record { thread = t; index = s.index } in x) (sym new.0)) in
      record {
        width = length-set clock a.thread _ ∙ so_far.width;
        links = links;
        before = λ s counted.
            elim (counts_cases clock a s within counted) [
              | inl old ↦ so_far.before s old
              | inr new ↦ let f = new_found s new in subst (λ x. Precedes steps x target) f.4 (links.precedes f.0 f.1 f.2 f.3)
            ];
        known = λ s counted.
            elim (counts_cases clock a s within counted) [
              | inl old ↦
                  elim (so_far.known s old) [
                    | inl all ↦ inl (λ b h. counts_more clock a b within (all b h))
                    | inr f ↦ inr (found_more found more s f)
                  ]
              | inr new ↦ inr (new_found s new)
            ];
        met = λ counted.
            elim (counts_cases clock a target within counted) [
              | inl old ↦ found_more found more target (so_far.met old)
              | inr new ↦ new_found target new
            ];
        looked = λ k l below at_k b h.
            let k_within : k < length found = let w = slice_get_within found at m here in omega arith in
            counts_more clock a b within (so_far.looked k l below (sym (slice_get_before found more k k_within) ∙ at_k) b h);
      }

  -- a clock counts no more segments of a thread than there are
  pub clock_fits : (clock : List ℕ) → ((s : Segment) → Counts clock s → Precedes steps s target) → (thread : ℕ) → slice_index clock thread ≤ length (steps_of_thread steps thread)
  clock_fits clock before thread =
      elim (cases_lt 0 (slice_index clock thread)) [
        | inl some ↦
            let last : Segment = record { thread = thread; index = slice_index clock thread - 1 } in
            let has : Has steps last = precedes_inside steps sound last target (before last (omega arith)) in
            omega arith
        | inr none ↦ omega arith
      ]

  -- what is found is no longer unseen
  pub reach_room : (clock : List ℕ) (found : List Link) (at : ℕ) (m : Link) (a : Segment) → Explores steps target clock found at → LeadsTo steps a m.segment
      → unseen steps (raised clock a) + length (found ++ links_back a at (length found) (a.index + 1 - slice_index clock a.thread)) ≡ unseen steps clock + length found
  reach_room clock found at m a so_far step =
      let has : Has steps a = sound.inside a m.segment step in
      let within : a.thread < length clock = omega (arith, thread_inside steps a has, so_far.width) in
      let fits = clock_fits clock so_far.before a.thread in
      let e = unseen-set steps clock a.thread (max (slice_index clock a.thread) (a.index + 1)) so_far.width within (omega arith) (omega arith) in
      let more = length-append found (links_back a at (length found) (a.index + 1 - slice_index clock a.thread)) in
      let count = length-links_back (a.index + 1 - slice_index clock a.thread) a at (length found) in
      omega arith

  -- an item of the sources is one step before
  pub item_leads : (items : List Segment) (x : Segment) (i : ℕ) (a : Segment) → items ≡ sources steps x → i < length items → a ≡ get_or items i a → LeadsTo steps a x
  item_leads items x i a are within is = subst (λ ys. Contains ys a) are (i, within, sym is)

  -- its number fits after one more
  pub item_small : (x a : Segment) → LeadsTo steps a x → a.index + 1 < 2 ^ 32
  item_small x a h = let small = sound.small a.thread in let has = sound.inside a x h in omega arith

  -- the sources so far are counted, and the one at i
  pub counted_more : (clock : List ℕ) (items : List Segment) (i : ℕ) (a : Segment) → a.thread < length clock → i < length items → a ≡ get_or items i a
      → ((k : ℕ) (b : Segment) → k < i → slice_get items k ≡ Some b → Counts clock b) → (k : ℕ) (b : Segment) → k < i + 1 → slice_get items k ≡ Some b → Counts (raised clock a) b
  counted_more clock items i a within inside is before k b below here =
      elim (place_cases i k below) [
        | inl lower ↦ counts_more clock a b within (before k b lower here)
        | inr last ↦
            let at_i : slice_get items i ≡ Some a = slice_get_read items (length items) i a refl inside is in
            let same : b ≡ a = same_Some b a (sym here ∙ ap (slice_get items) last ∙ at_i) in
            subst (λ x. Counts (raised clock a) x) (sym same) (counts_itself clock a within)
      ]

  -- all sources of an entry are counted: it is looked at
  pub look_done : (clock : List ℕ) (found : List Link) (at : ℕ) (m : Link) (items : List Segment) → Explores steps target clock found at → slice_get found at ≡ Some m → items ≡ sources steps m.segment
      → ((k : ℕ) (b : Segment) → k < length items → slice_get items k ≡ Some b → Counts clock b) → Explores steps target clock found (at + 1)
  look_done clock found at m items so_far here are all = record {
    width = so_far.width;
    links = so_far.links;
    before = so_far.before;
    known = so_far.known;
    met = so_far.met;
    looked = λ k l below at_k a h.
        elim (place_cases at k below) [
          | inl lower ↦ so_far.looked k l lower at_k a h
          | inr last ↦
              let same : l ≡ m = same_Some l m (sym at_k ∙ ap (slice_get found) last ∙ here) in
              let among : Contains items a = subst (λ ys. Contains ys a) (ap (λ y. sources steps y.segment) same ∙ sym are) h in
              all among.0 a among.1 (slice_get-get_or items among.0 a among.1 ∙ ap Some among.2)
        ];
  }

  -- one entry has no later one
  none_later : (x : Link) (k : ℕ) (l : Link) → 0 < k → slice_get (x ∷ []) k ≡ Some l → ⊥
  none_later x zero l pos h = absurd (omega arith)
  none_later x (suc k) l pos h = cc

  -- an entry is a segment of the table
  pub entry_has : (found : List Link) → AreLinks steps target found → Has steps target → (k : ℕ) (m : Link) → slice_get found k ≡ Some m → Has steps m.segment
  entry_has found links has zero m at =
      let same : m.segment ≡ target = ap (λ l. l.segment) (same_Some m links.begins.0 (sym at ∙ links.begins.1)) ∙ links.begins.2 in
      subst (Has steps) (sym same) has
  entry_has found links has (suc k) m at = precedes_inside steps sound m.segment target (links.precedes (suc k) m (omega arith) at)

  -- the entries of a search are of the table's threads
  pub found_among : (found : List Link) (threads : ℕ) → AreLinks steps target found → Has steps target → threads ≡ length steps → IsAmong found threads
  found_among found threads links has are k l here = let within = thread_inside steps l.segment (entry_has found links has k l here) in omega arith

  -- a search begins
  pub begin_explores : (clock : List ℕ) → MayStart steps clock target → Explores steps target clock (record { segment = target; next = 0 } ∷ []) 0
  begin_explores clock start =
      let first : Link = record { segment = target; next = 0 } in
      record {
        width = start.width;
        links = record {
          begins = (first, refl, refl);
          linked = λ k l pos here. absurd (none_later first k l pos here);
          precedes = λ k l pos here. absurd (none_later first k l pos here);
        };
        before = start.before;
        known = λ s counted. inl (start.closed s counted);
        met = λ counted. absurd (start.fresh counted);
        looked = λ k l below. absurd (omega arith);
      }
