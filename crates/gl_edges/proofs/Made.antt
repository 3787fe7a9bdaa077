-- The edges of lists of events are those that the threads make.
use Rattle.std.proofs.Common.{◌≡◌, ℕ, zero, suc, ◌+◌, ◌<◌, inl, inr, List, [], ◌∷◌, length, map, take, Some, None, refl, sym, ap, subst, ◌∙◌, arith}
use Rattle.std.specs.Prelude.{Contains, slice_get}
use Rattle.std.specs.List.{range_with_len, enumerate_from}
use Rattle.std.specs.Option.{option_map_or}
use Rattle.std.proofs.lemmas.Bool.{cases_lt}
use Rattle.std.proofs.lemmas.Option.{slice_get_within}
use Rattle.gl_event.specs.Events.{depth, held}
use Rattle.gl_event.specs.declared.events.Event.{Event}
use Rattle.gl_event.specs.declared.events.Event.TheVariants.{Acquire, Release, TryAcquire, Fork, Join}
use Rattle.gl_event.specs.declared.events.LockMode.{LockMode}
use Rattle.gl_edges.specs.Edges.{pair_at, edges_wanting, edges_after, edges_at, edges_of_list, edges_made}
use Rattle.gl_edges.specs.declared.edge.Edge.{Edge}
use Rattle.gl_edges.specs.declared.edge.Sample.{Sample}
use Rattle.gl_edges.proofs.Membership.{contains_here, contains_later, contains_cases, contains_none, contains_map, contains_map_from, contains_flat_map, contains_flat_map_from, contains_range, held_where_deep, deep_where_held}
use Rattle.gl_edges.proofs.Gathering.{wanting_is, wanting_none}

-- ---- the edges of one acquire

-- a pair of an acquire is that of a held lock, and the wanted mode lock isn't held
pub record IsPairOf (thread : ℕ) (es : List Event) (wanted : ℕ) (mode : LockMode) (loc : ℕ) (pair : Edge × Sample) : Type 0 where
  -- the held lock
  pub lock : ℕ
  -- the wanted mode lock is free
  pub free : depth es wanted ≡ 0
  -- the other one is held
  pub deep : 0 < depth es lock
  -- the pair is that of the definition
  pub is : pair_at thread es wanted mode loc lock ≡ pair

-- each pair of an acquire is that of a held lock
pub wanting_from : (thread : ℕ) (es : List Event) (wanted : ℕ) (mode : LockMode) (loc : ℕ) (pair : Edge × Sample) → Contains (edges_wanting thread es wanted mode loc) pair → IsPairOf thread es wanted mode loc pair
wanting_from thread es wanted mode loc pair at =
    elim (cases_lt 0 (depth es wanted)) [
      | inl deep ↦ absurd (contains_none pair (subst (λ xs. Contains xs pair) (wanting_none thread es wanted mode loc deep) at))
      | inr none ↦
          let free : depth es wanted ≡ 0 = omega arith in
          let (lock, there, is) = contains_map_from (pair_at thread es wanted mode loc) pair (held es) (subst (λ xs. Contains xs pair) (wanting_is thread es wanted mode loc free) at) in
          record { lock = lock; free = free; deep = deep_where_held es lock there; is = is }
    ]

-- the pair of each held lock is one of the acquire
pub wanting_has : (thread : ℕ) (es : List Event) (wanted : ℕ) (mode : LockMode) (loc : ℕ) (pair : Edge × Sample) → IsPairOf thread es wanted mode loc pair → Contains (edges_wanting thread es wanted mode loc) pair
wanting_has thread es wanted mode loc pair p =
    subst (λ xs. Contains xs pair) (sym (wanting_is thread es wanted mode loc p.free))
    (subst (Contains (map (pair_at thread es wanted mode loc) (held es))) p.is
    (contains_map (pair_at thread es wanted mode loc) p.lock (held es) (held_where_deep es p.lock p.deep)))

-- ---- the edges at a place

-- an event that makes a pair is an acquire
pub after_from : (thread : ℕ) (es : List Event) (e : Event) (pair : Edge × Sample) → Contains (edges_after thread es e) pair → (wanted : ℕ) × (mode : LockMode) × (loc : ℕ) × (e ≡ Acquire mode wanted loc) × IsPairOf thread es wanted mode loc pair
after_from thread es (Acquire mode wanted loc) pair at = (wanted, mode, loc, refl, wanting_from thread es wanted mode loc pair at)
after_from thread es (Release mode lock loc) pair at = absurd (contains_none pair at)
after_from thread es (TryAcquire mode lock loc) pair at = absurd (contains_none pair at)
after_from thread es (Fork other loc) pair at = absurd (contains_none pair at)
after_from thread es (Join other loc) pair at = absurd (contains_none pair at)

-- each pair at a place is that of an acquire there
pub at_from : (thread : ℕ) (es : List Event) (place : ℕ) (pair : Edge × Sample) → Contains (edges_at thread es place) pair
    → (wanted : ℕ) × (mode : LockMode) × (loc : ℕ) × (slice_get es place ≡ Some (Acquire mode wanted loc)) × IsPairOf thread (take place es) wanted mode loc pair
unfolding edges_at
at_from thread es place pair at =
    elim (slice_get es place) as (λ o. slice_get es place ≡ o → Contains (option_map_or (edges_after thread (take place es)) o []) pair → (wanted : ℕ) × (mode : LockMode) × (loc : ℕ) × (slice_get es place ≡ Some (Acquire mode wanted loc)) × IsPairOf thread (take place es) wanted mode loc pair) [
      | None ↦ λ is there. absurd (contains_none pair there)
      | Some e ↦ λ is there.
          let (wanted, mode, loc, acquires, made) = after_from thread (take place es) e pair there in
          (wanted, mode, loc, is ∙ ap Some acquires, made)
    ] refl at

-- and the pairs of an acquire stand at its place
pub at_has : (thread : ℕ) (es : List Event) (place wanted : ℕ) (mode : LockMode) (loc : ℕ) (pair : Edge × Sample) → slice_get es place ≡ Some (Acquire mode wanted loc) → IsPairOf thread (take place es) wanted mode loc pair
    → Contains (edges_at thread es place) pair
unfolding edges_at
at_has thread es place wanted mode loc pair is made =
    subst (λ o. Contains (option_map_or (edges_after thread (take place es)) o []) pair) (sym is) (wanting_has thread (take place es) wanted mode loc pair made)

-- ---- the edges of all lists

-- each element stands with its number
pub contains_enumerate : {X : Type 0} (n : ℕ) (xs : List X) (i : ℕ) (x : X) → slice_get xs i ≡ Some x → Contains (enumerate_from n xs) (n + i, x)
contains_enumerate n [] i x at = absurd (cc)
contains_enumerate n (y ∷ xs) zero x at =
    let same : y ≡ x = cc in
    let here : n ≡ n + 0 = omega arith in
    subst (Contains ((n, y) ∷ enumerate_from (n + 1) xs)) (λ j. (here j, same j)) (contains_here (n, y) (enumerate_from (n + 1) xs))
contains_enumerate n (y ∷ xs) (suc i) x at =
    let here : (n + 1) + i ≡ n + suc i = omega arith in
    contains_later (n, y) (n + suc i, x) (enumerate_from (n + 1) xs) (subst (λ k. Contains (enumerate_from (n + 1) xs) (k, x)) here (contains_enumerate (n + 1) xs i x at))

-- and nothing else does
pub contains_enumerate_from : {X : Type 0} (n : ℕ) (xs : List X) (pair : ℕ × X) → Contains (enumerate_from n xs) pair → (i : ℕ) × (n + i ≡ pair.0) × (slice_get xs i ≡ Some pair.1)
contains_enumerate_from n [] pair at = absurd (contains_none pair at)
contains_enumerate_from n (y ∷ xs) pair at =
    elim (contains_cases (n, y) pair (enumerate_from (n + 1) xs) at) [
      | inl is ↦ let number = ap (λ p. p.0) is in (0, omega arith, ap (λ p. Some p.1) is)
      | inr later ↦
          let (i, number, there) = contains_enumerate_from (n + 1) xs pair later in
          (suc i, omega arith, there)
    ]

-- a pair of all lists is made at a place of one of them
pub record IsPairAt (lists : List (List Event)) (pair : Edge × Sample) : Type 0 where
  -- the thread
  pub thread : ℕ
  -- its events
  pub es : List Event
  -- they are the list at its number
  pub of_thread : slice_get lists thread ≡ Some es
  -- the place
  pub place : ℕ
  -- the wanted mode lock
  pub wanted : ℕ
  -- the mode of its acquire
  pub mode : LockMode
  -- the location of its acquire
  pub loc : ℕ
  -- the event there
  pub acquires : slice_get es place ≡ Some (Acquire mode wanted loc)
  -- the pair is one of that acquire
  pub made : IsPairOf thread (take place es) wanted mode loc pair

-- each pair of the lists is made at a place
pub made_from : (lists : List (List Event)) (pair : Edge × Sample) → Contains (edges_made lists) pair → IsPairAt lists pair
made_from lists pair at =
    let (numbered, there, of_list) = contains_flat_map_from (λ numbered. edges_of_list numbered.0 numbered.1) pair (enumerate_from 0 lists) at in
    let (i, number, list) = contains_enumerate_from 0 lists numbered there in
    let (place, in_range, at_it) = contains_flat_map_from (edges_at numbered.0 numbered.1) pair (range_with_len 0 (length numbered.1)) of_list in
    let (wanted, mode, loc, acquires, made) = at_from numbered.0 numbered.1 place pair at_it in
    let thread : i ≡ numbered.0 = omega arith in
    record { thread = numbered.0; es = numbered.1; of_thread = subst (λ t. slice_get lists t ≡ Some numbered.1) thread list; place = place; wanted = wanted; mode = mode; loc = loc; acquires = acquires; made = made }

-- each pair that is made at a place is one of the lists
pub made_has : (lists : List (List Event)) (pair : Edge × Sample) → IsPairAt lists pair → Contains (edges_made lists) pair
made_has lists pair p =
    let within = slice_get_within p.es p.place (Acquire p.mode p.wanted p.loc) p.acquires in
    let at_it = at_has p.thread p.es p.place p.wanted p.mode p.loc pair p.acquires p.made in
    let of_list = contains_flat_map (edges_at p.thread p.es) p.place pair (range_with_len 0 (length p.es)) (contains_range 0 (length p.es) p.place (omega arith) (omega arith)) at_it in
    let number : 0 + p.thread ≡ p.thread = omega arith in
    let there = subst (λ t. Contains (enumerate_from 0 lists) (t, p.es)) number (contains_enumerate 0 lists p.thread p.es p.of_thread) in
    contains_flat_map (λ numbered. edges_of_list numbered.0 numbered.1) (p.thread, p.es) pair (enumerate_from 0 lists) there of_list
