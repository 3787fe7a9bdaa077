-- How the forks are found, and those of one thread among them.
use Rattle.std.proofs.Common.{◌≡◌, ℕ, ◌+◌, ◌-◌, ◌<◌, ◌≤◌, true, false, List, [], ◌∷◌, ◌++◌, length, get_or, map, drop, Some, refl, sym, ap, subst, ◌∙◌, ◌⊎◌, inl, inr, arith}
use Rattle.std.specs.Prelude.{◌↔◌, Contains, nat_le, nat_lt, slice_get}
use Rattle.std.specs.List.Sorted.{IsNonDecreasingBy, IsPartitionedBy, IsPartitionPoint}
use Rattle.std.proofs.lemmas.Bool.{cases_lt}
use Rattle.std.proofs.lemmas.Bool.Decides.{nat_tests}
use Rattle.std.proofs.lemmas.List.{length-drop, length-map, length-take, get_or-drop, get_or-map, get_or-take}
use Rattle.std.proofs.lemmas.List.Elements.{Contains-append_left, Contains-push, Contains-push_cases}
use Rattle.std.proofs.lemmas.Option.{same_Some, slice_get_within}
use Rattle.gl_event.specs.declared.events.Event.{Event}
use Rattle.gl_event.specs.declared.events.Event.TheVariants.{Acquire, Release, TryAcquire, Fork, Join}
use Rattle.gl_event.specs.declared.events.Segment.{Segment}
use Rattle.gl_segments.specs.declared.forked.Spawn.{Spawn}
use Rattle.gl_segments.specs.bodies.Forked.{AddsForks, AreAllForks}
use Rattle.gl_segments.specs.bodies.Packing.{between}
use Rattle.gl_segments.specs.bodies.Tables.{Forks}
use Rattle.gl_segments.proofs.Tabling.{place_cases, cut_at_is, cut_within}

-- the forks that were added for the first n of a thread's forks and joins
pub record AddsBelow (old new : List Spawn) (from : ℕ) (es : List Event) (n : ℕ) : Type 0 where
  pub kept : (s : Spawn) → Contains old s → Contains new s
  -- each fork so far was added
  pub added : (i thread loc : ℕ) → i < n → slice_get es i ≡ Some (Fork thread loc) → Contains new (record { thread = thread; from = record { thread = from; index = i } })
  -- nothing else was added
  pub only : (s : Spawn) → Contains new s → Contains old s ⊎ ((s.from.thread ≡ from) × ((loc : ℕ) × (slice_get es s.from.index ≡ Some (Fork s.thread loc))))

-- the thread that a fork starts
started : Event → ℕ
started (Acquire mode lock loc) = 0
started (Release mode lock loc) = 0
started (TryAcquire mode lock loc) = 0
started (Fork thread loc) = thread
started (Join thread loc) = 0

-- one more fork
pub adds_fork : (old new : List Spawn) (from : ℕ) (es : List Event) (n thread loc : ℕ) → slice_get es n ≡ Some (Fork thread loc)
    → AddsBelow old new from es n → AddsBelow old (new ++ record { thread = thread; from = record { thread = from; index = n } } ∷ []) from es (n + 1)
unfolding started
adds_fork old new from es n thread loc at so_far =
    let x : Spawn = record { thread = thread; from = record { thread = from; index = n } } in
    record {
      kept = λ s h. Contains-append_left new (x ∷ []) s (so_far.kept s h);
      added = λ i t l below here.
          elim (place_cases n i below) [
            | inl lower ↦ Contains-append_left new (x ∷ []) _ (so_far.added i t l lower here)
            | inr last ↦
                let same : thread ≡ t = ap started (same_Some (Fork thread loc) (Fork t l) (sym at ∙ ap (slice_get es) (sym last) ∙ here)) in
                let is : x ≡ record { thread = t; from = record { thread = from; index = i } } = rw (same, last) in
                subst (Contains (new ++ x ∷ [])) is (Contains-push new x)
          ];
      only = λ s h.
          elim (Contains-push_cases new x s h) [
            | inl before ↦ so_far.only s before
            | inr same ↦ inr (sym (ap (λ y. y.from.thread) same), (loc, ap (slice_get es) (sym (ap (λ y. y.from.index) same)) ∙ at ∙ ap (λ y. Some (Fork y.thread loc)) same))
          ];
    }

-- one more event that is no fork
pub adds_other : (old new : List Spawn) (from : ℕ) (es : List Event) (n : ℕ) (e : Event) → slice_get es n ≡ Some e → ((thread loc : ℕ) → e ≡ Fork thread loc → ⊥)
    → AddsBelow old new from es n → AddsBelow old new from es (n + 1)
adds_other old new from es n e at other so_far = record {
  kept = so_far.kept;
  added = λ i thread loc below here.
      elim (place_cases n i below) [
        | inl lower ↦ so_far.added i thread loc lower here
        | inr last ↦ absurd (other thread loc (same_Some e (Fork thread loc) (sym at ∙ ap (slice_get es) (sym last) ∙ here)))
      ];
  only = so_far.only;
}

-- nothing was added yet
pub adds_none : (old : List Spawn) (from : ℕ) (es : List Event) → AddsBelow old old from es 0
adds_none old from es = record { kept = λ s h. h; added = λ i thread loc below. absurd (omega arith); only = λ s h. inl h }

-- all were added
pub adds_all : (old new : List Spawn) (from : ℕ) (es : List Event) (n : ℕ) → length es ≤ n → AddsBelow old new from es n → AddsForks old new from es
adds_all old new from es n all so_far = record {
  kept = so_far.kept;
  added = λ i thread loc here. let w = slice_get_within es i _ here in so_far.added i thread loc (omega arith) here;
  only = so_far.only;
}

-- the forks of the first n threads
pub record ForksBelow (cuts : List (List Event)) (forks : List Spawn) (n : ℕ) : Type 0 where
  -- each of them is there
  pub all : (s : Spawn) → Forks cuts s.thread s.from → s.from.thread < n → Contains forks s
  -- nothing else is
  pub only : (s : Spawn) → Contains forks s → Forks cuts s.thread s.from × (s.from.thread < n)

-- those of no threads
pub forks_none : (cuts : List (List Event)) → ForksBelow cuts [] 0
forks_none cuts = record { all = λ s f below. absurd (omega arith); only = λ s h. absurd (omega (arith, h.1)) }

-- those of one more thread
pub forks_more : (cuts : List (List Event)) (old new : List Spawn) (n : ℕ) (es : List Event) → slice_get cuts n ≡ Some es → AddsForks old new n es → ForksBelow cuts old n → ForksBelow cuts new (n + 1)
forks_more cuts old new n es at adds so_far = record {
  all = λ s f below.
      elim (place_cases n s.from.thread below) [
        | inl lower ↦ adds.kept s (so_far.all s f lower)
        | inr last ↦
            let here = cut_at_is cuts es s.from (ap (slice_get cuts) last ∙ at) in
            subst (λ t. Contains new (record { thread = s.thread; from = record { thread = t; index = s.from.index } })) (sym last) (adds.added s.from.index s.thread f.0 (sym here ∙ f.1))
      ];
  only = λ s h.
      elim (adds.only s h) [
        | inl before ↦ ((so_far.only s before).0, let w = (so_far.only s before).1 in omega arith)
        | inr (same, (loc, there)) ↦
            let here = cut_at_is cuts es s.from (ap (slice_get cuts) same ∙ at) in
            ((loc, here ∙ there), omega arith)
      ];
}

-- those of all threads
pub forks_all : (cuts : List (List Event)) (forks : List Spawn) (n : ℕ) → length cuts ≤ n → ForksBelow cuts forks n → AreAllForks cuts forks
forks_all cuts forks n all so_far s = (
  λ h. (so_far.only s h).0,
  λ f.
      let r = cut_within (slice_get cuts s.from.thread) s.from.index _ f.1 in
      let w = slice_get_within cuts s.from.thread r.0 r.1 in
      so_far.all s f (omega arith),
)

-- the same forks in another order
pub forks_reordered : (cuts : List (List Event)) (forks sorted : List Spawn) → ((s : Spawn) → Contains forks s → Contains sorted s) → ((s : Spawn) → Contains sorted s → Contains forks s) → AreAllForks cuts forks → AreAllForks cuts sorted
forks_reordered cuts forks sorted there back all s = (λ h. (all s).0 (back s h), λ f. there s ((all s).1 f))

module _ (xs : List Spawn) (thread : ℕ) where
  -- no fork of a lesser thread stands after one that isn't
  pub lesser_first : IsNonDecreasingBy (λ (s : Spawn). s.thread) xs → IsPartitionedBy (λ (s : Spawn). nat_lt s.thread thread) xs
  lesser_first rises i j d le below is = less (get_or xs i d).thread (get_or xs j d).thread (rises i j d le below) is
    where
      less : (a b : ℕ) → a ≤ b → nat_lt b thread ≡ true → nat_lt a thread ≡ true
      less a b h is = grind (arith, nat_tests)

  -- nor one of this thread or a lesser one
  pub up_to_first : IsNonDecreasingBy (λ (s : Spawn). s.thread) xs → IsPartitionedBy (λ (s : Spawn). nat_le s.thread thread) xs
  up_to_first rises i j d le below is = at_most (get_or xs i d).thread (get_or xs j d).thread (rises i j d le below) is
    where
      at_most : (a b : ℕ) → a ≤ b → nat_le b thread ≡ true → nat_le a thread ≡ true
      at_most a b h is = grind (arith, nat_tests)

  -- where the test changes, the numbers do
  pub starts_at : (i : ℕ) → IsPartitionPoint (λ (s : Spawn). nat_lt s.thread thread ≡ true) (λ (s : Spawn). nat_lt s.thread thread ≡ false) xs i
      → IsPartitionPoint (λ (s : Spawn). s.thread < thread) (λ (s : Spawn). thread ≤ s.thread) xs i
  starts_at i point = (λ k d low below. yes (get_or xs k d).thread (point.0 k d low below), λ k d low below. no (get_or xs k d).thread (point.1 k d low below))
    where
      yes : (a : ℕ) → nat_lt a thread ≡ true → a < thread
      yes a h = grind (arith, nat_tests)

      no : (a : ℕ) → nat_lt a thread ≡ false → thread ≤ a
      no a h = grind (arith, nat_tests)

  pub ends_at : (i : ℕ) → IsPartitionPoint (λ (s : Spawn). nat_le s.thread thread ≡ true) (λ (s : Spawn). nat_le s.thread thread ≡ false) xs i
      → IsPartitionPoint (λ (s : Spawn). s.thread ≤ thread) (λ (s : Spawn). thread < s.thread) xs i
  ends_at i point = (λ k d low below. yes (get_or xs k d).thread (point.0 k d low below), λ k d low below. no (get_or xs k d).thread (point.1 k d low below))
    where
      yes : (a : ℕ) → nat_le a thread ≡ true → a ≤ thread
      yes a h = grind (arith, nat_tests)

      no : (a : ℕ) → nat_le a thread ≡ false → thread < a
      no a h = grind (arith, nat_tests)

  module _ (start end : ℕ) (inside : start ≤ length xs) (within : end ≤ length xs) (first : IsPartitionPoint (λ (s : Spawn). s.thread < thread) (λ (s : Spawn). thread ≤ s.thread) xs start)
      (last : IsPartitionPoint (λ (s : Spawn). s.thread ≤ thread) (λ (s : Spawn). thread < s.thread) xs end) where
    -- the forks of a thread begin before they end
    pub in_order : start ≤ end
    in_order =
        elim (cases_lt end start) [
          | inl before ↦
              let d : Spawn = record { thread = 0; from = record { thread = 0; index = 0 } } in
              let low = first.0 end d (omega arith) before in
              let high = last.1 end d (omega arith) (omega arith) in
              absurd (omega arith)
          | inr after ↦ after
        ]

    -- between the two stand exactly the forks of the thread
    pub closed_are : (a : Segment) → Contains (map (λ (s : Spawn). s.from) (between start end xs)) a ↔ Contains xs (record { thread = thread; from = a })
    closed_are a =
        let ys : List Spawn = between start end xs in
        let x : Spawn = record { thread = thread; from = a } in
        let size : length ys ≡ end - start = let t = length-take (end - start) (drop start xs) in let r = length-drop start xs in omega arith in
        let at : (k : ℕ) → k < end - start → get_or ys k x ≡ get_or xs (start + k) x = λ k below. get_or-take (end - start) (drop start xs) k x below ∙ get_or-drop start xs k x in (
          λ (k, below, is).
              let short : k < end - start = let m = length-map ys (λ (s : Spawn). s.from) in omega arith in
              let y = get_or xs (start + k) x in
              let low = first.1 (start + k) x (omega arith) (omega arith) in
              let high = last.0 (start + k) x (omega arith) (omega arith) in
              let from : y.from ≡ a = ap (λ (s : Spawn). s.from) (sym (at k short)) ∙ sym (get_or-map (λ (s : Spawn). s.from) ys k x a (omega arith)) ∙ is in
              let same : y.thread ≡ thread = omega arith in
              (start + k, omega arith, subst (λ (t : ℕ). y ≡ record { thread = t; from = a }) same (subst (λ (b : Segment). y ≡ record { thread = y.thread; from = b }) from refl)),
          λ (k, below, is).
              let same : (get_or xs k x).thread ≡ thread = ap (λ (s : Spawn). s.thread) is in
              let after : start ≤ k =
              elim (cases_lt k start) [
                | inl before ↦ let low = first.0 k x (omega arith) before in absurd (omega arith)
                | inr after ↦ after
              ] in
              let before : k < end =
              elim (cases_lt k end) [
                | inl before ↦ before
                | inr after ↦ let high = last.1 k x after below in absurd (omega arith)
              ] in
              let place : start + (k - start) ≡ k = omega arith in
              let here : get_or ys (k - start) x ≡ x = at (k - start) (omega arith) ∙ ap (λ i. get_or xs i x) place ∙ is in
              (k - start, let m = length-map ys (λ (s : Spawn). s.from) in omega arith, get_or-map (λ (s : Spawn). s.from) ys (k - start) x a (omega arith) ∙ ap (λ (s : Spawn). s.from) here),
        )
