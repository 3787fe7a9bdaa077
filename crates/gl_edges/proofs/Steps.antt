-- What one event adds to an ascending list of edges.
use Rattle.std.proofs.Common.{◌≡◌, ℕ, zero, suc, ◌+◌, ◌-◌, ◌<◌, ◌≤◌, inl, inr, List, [], ◌∷◌, ◌++◌, length, get_or, map, take, Some, Result, Ok, Err, refl, sym, ap, subst, ◌∙◌, arith}
use Rattle.std.specs.Prelude.{Contains, slice_get, IfSome, OnErr, true, ◌==◌}
use Rattle.std.specs.List.Sorted.{IsStrictlySortedBy}
use Rattle.std.specs.Ordering.{nat_cmp, ordering_then}
use Rattle.std.specs.declared.cmp.Ordering.{Ordering}
use Rattle.std.specs.declared.cmp.Ordering.TheVariants.{Less, Equal}
use Rattle.std.proofs.lemmas.Bool.{cases_lt, ne_eqb, false≢true}
use Rattle.std.proofs.lemmas.List.{length_push, length-map, get_or-map, get_or_append_left, get_or_push, map_push, map_more, take_all, length-take, length-take-le, get_or-take, append_assoc, take-append-le}
use Rattle.std.proofs.lemmas.List.Elements.{All-contains}
use Rattle.std.proofs.lemmas.Map.Keys.{Less-from_sorted, sorted_from_all_adjacent}
use Rattle.std.proofs.lemmas.Option.{slice_get-get_or}
use Rattle.std.specs.Cmp.{nat_cmp_total, tied_itself}
use Rattle.std.proofs.Math.Seq.{take-append_seam}
use Rattle.gl_event.specs.declared.events.Event.TheVariants.{Acquire, Release, TryAcquire, Fork, Join}
use Rattle.gl_event.specs.declared.events.LockMode.{LockMode}
use Rattle.gl_event.proofs.Depths.{slice_get_last}
use Rattle.gl_event.specs.Events.{depth, held, entry_of}
use Rattle.gl_event.specs.Standing.{StandsFor}
use Rattle.gl_event.specs.declared.events.Event.{Event}
use Rattle.gl_event.specs.declared.held.HeldEntry.{HeldEntry}
use Rattle.gl_edges.specs.Edges.{guards, edge_of, pair_at, edges_wanting, edges_after, edges_at}
use Rattle.gl_edges.specs.Order.{edge_cmp, AreAscending, IsAboveLast}
use Rattle.gl_edges.specs.Tracking.{Follows}
use Rattle.gl_edges.specs.declared.edge.Edge.{Edge}
use Rattle.gl_edges.specs.declared.edge.Sample.{Sample}
use Rattle.gl_edges.specs.declared.tracker.Tracker.{Tracker}
use Rattle.gl_edges.proofs.Membership.{contains_none, deep_where_held}
use Rattle.gl_edges.proofs.Orders.{edge_cmp_total}
use Rattle.std.proofs.lemmas.Simd.{map-map}
use Rattle.gl_edges.specs.Guards.{guards_of}
use Rattle.gl_edges.specs.declared.guards.Guard.{Guard}
use Rattle.gl_edges.proofs.Holding.{guards_are, guards-locks, held_ascends, sorted_mapped}
use Rattle.gl_edges.proofs.Gathering.{pair_for_is, wanting_is, wanting_none, edges_at_is}

-- what holds anyway holds where a call fails
pub on_err : {X E A : Type 0} (answer : Result X E) → A → OnErr answer A
on_err (Ok x) a = tt
on_err (Err e) a = a

-- a list of no elements
pub nothing_there : {X : Type 0} (xs : List X) → (length xs == 0) ≡ true → xs ≡ []
nothing_there [] none = refl
nothing_there (x ∷ xs) none = absurd (false≢true (sym (ne_eqb (length (x ∷ xs)) 0 (λ e. absurd (omega arith))) ∙ none))

-- who has no entry holds no lock
pub none_held : (es : List Event) (locks : List ℕ) → held es ≡ locks → StandsFor es [] → locks ≡ []
none_held es [] is stands = refl
none_held es (lock ∷ locks) is stands =
    absurd (contains_none _ (stands.whole lock (deep_where_held es lock (subst (λ ls. Contains ls lock) (sym is) (0, omega arith, refl)))))

-- ---- an edge above the last one

-- the edges of the pairs
abbrev firsts : List (Edge × Sample) → List Edge
firsts pairs = map (λ pair. pair.0) pairs

-- the last edge is below the new one
last_below : (pairs : List (Edge × Sample)) (edge : Edge) (sample : Sample) (k : ℕ) → k + 1 ≡ length pairs → IsAboveLast pairs edge → edge_cmp (get_or pairs k (edge, sample)).0 edge ≡ Less
last_below pairs edge sample k long above =
    let at : slice_get pairs (length pairs - 1) ≡ Some (get_or pairs k (edge, sample)) =
    ap (slice_get pairs) place ∙ slice_get-get_or pairs k (edge, sample) (omega arith) in
    subst (λ o. IfSome o (λ last. edge_cmp last.0 edge ≡ Less)) at above
  where
    place : length pairs - 1 ≡ k
    place = omega arith

-- each edge is below the next
adjacent : (pairs : List (Edge × Sample)) (edge : Edge) (sample : Sample) → AreAscending pairs → IsAboveLast pairs edge → (k : ℕ) → k + 1 < length (firsts pairs) + 1
    → edge_cmp (get_or (firsts pairs ++ edge ∷ []) k edge) (get_or (firsts pairs ++ edge ∷ []) (k + 1) edge) ≡ Less
adjacent pairs edge sample up above k within =
    let long = length-map pairs (λ pair. pair.0) in
    let here : get_or (firsts pairs ++ edge ∷ []) k edge ≡ get_or (firsts pairs) k edge = get_or_append_left (firsts pairs) (edge ∷ []) edge k (omega arith) in
    elim (cases_lt (k + 1) (length (firsts pairs))) [
      | inl both ↦
          let next = get_or_append_left (firsts pairs) (edge ∷ []) edge (k + 1) both in
          rw (here, next) (Less-from_sorted edge_cmp (firsts pairs) k (k + 1) edge up (omega arith) both)
      | inr last ↦
          let end : length (firsts pairs) ≡ k + 1 = omega arith in
          let next = get_or_push (firsts pairs) edge edge (k + 1) end in
          let it : get_or (firsts pairs) k edge ≡ (get_or pairs k (edge, sample)).0 = get_or-map (λ pair. pair.0) pairs k (edge, sample) edge (omega arith) in
          rw (here, next, it) (last_below pairs edge sample k (omega arith) above)
    ]

-- an edge above the last one leaves the list ascending
pub ascending_push : (pairs : List (Edge × Sample)) (edge : Edge) (sample : Sample) → AreAscending pairs → IsAboveLast pairs edge → AreAscending (pairs ++ (edge, sample) ∷ [])
ascending_push pairs edge sample up above =
    subst (IsStrictlySortedBy edge_cmp) (sym (map_push (λ pair. pair.0) pairs (edge, sample)))
    (sorted_from_all_adjacent edge_cmp_total (firsts pairs ++ edge ∷ []) edge
    (λ k within. let long = length_push (firsts pairs) edge in adjacent pairs edge sample up above k (omega arith)))

-- ---- the pairs of an acquire

module _ (thread : ℕ) (es : List Event) (tracker : Tracker) (tracked : Follows thread es tracker) (wanted : ℕ) (mode : LockMode) (loc : ℕ) where
  -- the pair of a held lock is that of the definition
  pair_of_entry : (h : HeldEntry) (lock : ℕ) (guards : List Guard) → Contains tracker.state.held h → h.lock ≡ lock → guards ≡ guards_of tracker.state.held
      → ◌≡◌ {A = Edge × Sample} (
        record { thread = tracker.thread; held = h.lock; held_mode = h.mode; wanted = wanted; wanted_mode = mode; first = h.seg; second = tracker.state.segments; guards = guards },
        record { place = tracker.state.events; held_loc = h.loc; wanted_loc = loc },
      ) (pair_at thread es wanted mode loc lock)
  pair_of_entry h lock guards there of_lock guarded =
      let entry : h ≡ entry_of es h.lock = All-contains (λ h. h ≡ entry_of es h.lock) tracker.state.held h tracked.stands.held.each there in
      (λ i. (
        record { thread = tracker.thread; held = h.lock; held_mode = h.mode; wanted = wanted; wanted_mode = mode; first = h.seg; second = tracker.state.segments; guards = guarded i },
        record { place = tracker.state.events; held_loc = h.loc; wanted_loc = loc },
      ))
      ∙ pair_for_is thread es tracker tracked wanted mode loc lock h (entry ∙ ap (entry_of es) of_lock)

  -- the pair of a guard
  abbrev of_guard : Guard → Edge × Sample
  of_guard g = pair_at thread es wanted mode loc g.lock

  -- the pair that is made for a held lock is that of the definition
  pub pair_is : (h : HeldEntry) (lock : ℕ) (guards : List Guard) (second place : ℕ) → second ≡ tracker.state.segments → place ≡ tracker.state.events
      → Contains tracker.state.held h → h.lock ≡ lock → guards ≡ guards_of tracker.state.held
      → ◌≡◌ {A = Edge × Sample} (
        record { thread = tracker.thread; held = h.lock; held_mode = h.mode; wanted = wanted; wanted_mode = mode; first = h.seg; second = second; guards = guards },
        record { place = place; held_loc = h.loc; wanted_loc = loc },
      ) (pair_at thread es wanted mode loc lock)
  pair_is h lock guards second place here now there of_lock guarded =
      (λ j. (
        record { thread = tracker.thread; held = h.lock; held_mode = h.mode; wanted = wanted; wanted_mode = mode; first = h.seg; second = here j; guards = guards },
        record { place = now j; held_loc = h.loc; wanted_loc = loc },
      ))
      ∙ pair_of_entry h lock guards there of_lock guarded

  -- one more pair, behind those made
  pub pairs_more : (made pairs : List (Edge × Sample)) (gs : List Guard) (i : ℕ) (g : Guard) (pair : Edge × Sample) → i < length gs → g ≡ get_or gs i g
      → pair ≡ of_guard g → pairs ≡ made ++ map of_guard (take i gs) → pairs ++ pair ∷ [] ≡ made ++ map of_guard (take (i + 1) gs)
  pairs_more made pairs gs i g pair within item is before =
      (λ j. before j ++ (is ∙ ap of_guard item) j ∷ [])
      ∙ append_assoc made (map of_guard (take i gs)) (of_guard (get_or gs i g) ∷ [])
      ∙ ap (λ ps. made ++ ps) (sym (map_more of_guard gs i g within))

  -- the pairs of all held locks
  pub pairs_all : (gs : List Guard) → gs ≡ guards_of tracker.state.held → map of_guard gs ≡ map (pair_at thread es wanted mode loc) (held es)
  pairs_all gs are =
      ap (map of_guard) (are ∙ guards_are es tracker.state.held tracked.stands.held)
      ∙ sym (map-map (pair_at thread es wanted mode loc) (λ (g : Guard). g.lock) (guards es))
      ∙ ap (map (pair_at thread es wanted mode loc)) (guards-locks es)

  -- with that of the last one, behind those made
  pub pairs_last : (made pairs : List (Edge × Sample)) (gs others : List Guard) (i : ℕ) (g : Guard) (pair : Edge × Sample) → gs ≡ guards_of tracker.state.held
      → gs ≡ others ++ g ∷ [] → length others ≤ i → pairs ≡ made ++ map of_guard (take i others) → pair ≡ of_guard g
      → pairs ++ pair ∷ [] ≡ made ++ map (pair_at thread es wanted mode loc) (held es)
  pairs_last made pairs gs others i g pair are parts all before is =
      (λ j. (before ∙ ap (λ hs. made ++ map of_guard hs) (take_all i others all)) j ++ is j ∷ [])
      ∙ append_assoc made (map of_guard others) (of_guard g ∷ [])
      ∙ ap (λ ps. made ++ ps) (sym (map_push of_guard others g) ∙ ap (map of_guard) (sym parts) ∙ pairs_all gs are)

-- ---- edges that were made before

-- a list begins with what it began with before one more element came
pub kept_more : {X : Type 0} (made xs : List X) (x : X) → take (length made) xs ≡ made → take (length made) (xs ++ x ∷ []) ≡ made
kept_more made xs x kept =
    let long = ap length kept in
    let taken = length-take (length made) xs in
    take-append-le (length made) xs (x ∷ []) (omega arith) ∙ kept

-- ---- the edges of one event ascend

-- where the first parts tie, the second ones decide
by_second : (r s rest : Ordering) → r ≡ Equal → s ≡ Less → ordering_then r (ordering_then s rest) ≡ Less
by_second r s rest tie less = ap (λ x. ordering_then x (ordering_then s rest)) tie ∙ ap (λ x. ordering_then x rest) less

-- the edge of a greater held lock is above
later_edge : (thread : ℕ) (es : List Event) (wanted : ℕ) (mode : LockMode) (a b : ℕ) → nat_cmp a b ≡ Less → edge_cmp (edge_of thread es wanted mode a) (edge_of thread es wanted mode b) ≡ Less
later_edge thread es wanted mode a b up = by_second (nat_cmp thread thread) (nat_cmp a b) _ (tied_itself nat_cmp_total thread) up

-- the edges of the pairs of an acquire
map_firsts : (thread : ℕ) (es : List Event) (wanted : ℕ) (mode : LockMode) (loc : ℕ) (locks : List ℕ) → firsts (map (pair_at thread es wanted mode loc) locks) ≡ map (edge_of thread es wanted mode) locks
map_firsts thread es wanted mode loc [] = refl
map_firsts thread es wanted mode loc (lock ∷ locks) = ap (λ es'. edge_of thread es wanted mode lock ∷ es') (map_firsts thread es wanted mode loc locks)

-- no edges
nothing_ascends : AreAscending []
unfolding IsStrictlySortedBy
nothing_ascends = record {}

-- the edges of an acquire ascend
wanting_ascends : (thread : ℕ) (es : List Event) (wanted : ℕ) (mode : LockMode) (loc : ℕ) → AreAscending (edges_wanting thread es wanted mode loc)
wanting_ascends thread es wanted mode loc =
    elim (cases_lt 0 (depth es wanted)) [
      | inl deep ↦ subst AreAscending (sym (wanting_none thread es wanted mode loc deep)) nothing_ascends
      | inr none ↦
          subst AreAscending (sym (wanting_is thread es wanted mode loc (omega arith)))
          (subst (IsStrictlySortedBy edge_cmp) (sym (map_firsts thread es wanted mode loc (held es)))
          (sorted_mapped nat_cmp edge_cmp (edge_of thread es wanted mode) (later_edge thread es wanted mode) (held es) (held_ascends es)))
    ]

-- those of any event do
pub after_ascends : (thread : ℕ) (es : List Event) (e : Event) → AreAscending (edges_after thread es e)
after_ascends thread es (Acquire mode lock loc) = wanting_ascends thread es lock mode loc
after_ascends thread es (Release mode lock loc) = nothing_ascends
after_ascends thread es (TryAcquire mode lock loc) = nothing_ascends
after_ascends thread es (Fork other loc) = nothing_ascends
after_ascends thread es (Join other loc) = nothing_ascends

-- the edges at the place of the newest event
pub newest : (thread : ℕ) (es : List Event) (e : Event) → edges_at thread (es ++ e ∷ []) (length es) ≡ edges_after thread es e
newest thread es e =
    edges_at_is thread (es ++ e ∷ []) (length es) e (slice_get_last es e)
    ∙ ap (λ front. edges_after thread front e) (take-append_seam es (e ∷ []))

-- each edge of an ascending list is above the last one before it
pub above_front : (pairs : List (Edge × Sample)) (i : ℕ) (pair : Edge × Sample) → AreAscending pairs → i < length pairs → pair ≡ get_or pairs i pair → IsAboveLast (take i pairs) pair.0
above_front pairs zero pair up within item = record {}
above_front pairs (suc j) pair up within item =
    let long : length (take (suc j) pairs) ≡ suc j = length-take-le (suc j) pairs (omega arith) in
    let place : length (take (suc j) pairs) - 1 ≡ j = omega arith in
    let at : slice_get (take (suc j) pairs) (length (take (suc j) pairs) - 1) ≡ Some (get_or pairs j pair) =
    ap (slice_get (take (suc j) pairs)) place
    ∙ slice_get-get_or (take (suc j) pairs) j pair (omega arith)
    ∙ ap Some (get_or-take (suc j) pairs j pair (omega arith)) in
    let before : get_or (firsts pairs) j pair.0 ≡ (get_or pairs j pair).0 = get_or-map (λ p. p.0) pairs j pair pair.0 (omega arith) in
    let here : get_or (firsts pairs) (suc j) pair.0 ≡ pair.0 = get_or-map (λ p. p.0) pairs (suc j) pair pair.0 within ∙ ap (λ p. p.0) (sym item) in
    let below = Less-from_sorted edge_cmp (firsts pairs) j (suc j) pair.0 up (omega arith) (omega (arith, length-map pairs (λ p. p.0))) in
    let less : edge_cmp (get_or pairs j pair).0 pair.0 ≡ Less = (λ k. edge_cmp (sym before k) (sym here k)) ∙ below in
    subst (λ o. IfSome o (λ last. edge_cmp last.0 pair.0 ≡ Less)) (sym at) less
