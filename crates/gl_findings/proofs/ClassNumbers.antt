-- The numbers of the edges of a class.
use Rattle.std.proofs.Common.{◌≡◌, ℕ, ◌+◌, ◌<◌, ◌≤◌, Bool, true, false, cond, List, [], ◌∷◌, ◌++◌, length, map, filter, take, get_or, refl, sym, ap, subst, ◌∙◌, inl, inr, arith}
use Rattle.std.specs.Prelude.{nat_eq, slice_get, Some, All, Contains}
use Rattle.std.specs.List.{flat_map, position_or_len}
use Rattle.std.specs.Set.{distinct_count}
use Rattle.std.proofs.lemmas.Bool.{cases_lt, false≢true}
use Rattle.std.proofs.lemmas.List.{append_assoc, get_or-map, length-append, length-map, map-append, take_more}
use Rattle.std.proofs.lemmas.List.Concat.{flat_map-append, flat_map_single}
use Rattle.std.proofs.lemmas.List.Elements.{All-contains_itself, All-head, All-tail, filter-append}
use Rattle.std.proofs.lemmas.List.Sums.{fails_before_first, passes_at_first}
use Rattle.std.proofs.lemmas.Option.{get_or_from_slice_get, slice_get-get_or}
use Rattle.gl_edges.specs.declared.edge.Edge.{Edge}
use Rattle.gl_edges.specs.declared.edge.Sample.{Sample}
use Rattle.gl_index.proofs.Lists.{element_at}
use Rattle.gl_index.proofs.Listed.{tells_locks}
use Rattle.gl_findings.specs.Counts.{counts_of}
use Rattle.gl_grounds.specs.Classes.{same_places, class_of, classes_of, are_places, places_of}
use Rattle.gl_findings.specs.bodies.Tallies.{AreCounted, IsTally, locks_of, noted_by, numbers_of, threads_of}
use Rattle.gl_findings.specs.declared.counts.ClassCounts.{ClassCounts}
use Rattle.gl_findings.proofs.Tallied.{other_back, same_back}

-- what is noted of one edge more
threads_more : (table : List (Edge × Sample)) (i : ℕ) (d : Edge × Sample) → i < length table
    → noted_by threads_of table (take (i + 1) table) ≡ noted_by threads_of table (take i table) ++ (class_of table (get_or table i d), (get_or table i d).0.thread) ∷ []
threads_more table i d within = ap (noted_by threads_of table) (take_more table i d within) ∙ flat_map-append (λ pair. map (λ n. (class_of table pair, n)) (threads_of pair)) (take i table) (get_or table i d ∷ [])

locks_more : (table : List (Edge × Sample)) (i : ℕ) (d : Edge × Sample) → i < length table
    → noted_by locks_of table (take (i + 1) table)
    ≡ (noted_by locks_of table (take i table) ++ (class_of table (get_or table i d), (get_or table i d).0.held) ∷ []) ++ (class_of table (get_or table i d), (get_or table i d).0.wanted) ∷ []
locks_more table i d within =
    let pair = get_or table i d in
    ap (noted_by locks_of table) (take_more table i d within) ∙ flat_map-append (λ p. map (λ n. (class_of table p, n)) (locks_of p)) (take i table) (pair ∷ [])
    ∙ sym (append_assoc (noted_by locks_of table (take i table)) ((class_of table pair, pair.0.held) ∷ []) ((class_of table pair, pair.0.wanted) ∷ []))

-- of each edge one or two numbers are noted
pub few_noted : (numbers : Edge × Sample → List ℕ) (table pairs : List (Edge × Sample)) → ((pair : Edge × Sample) → length (numbers pair) ≤ 2) → length (noted_by numbers table pairs) ≤ length pairs + length pairs
few_noted numbers table [] few = omega arith
few_noted numbers table (pair ∷ pairs) few =
    let noted : List (ℕ × ℕ) = map (λ n. (class_of table pair, n)) (numbers pair) in
    let as_many : length noted ≡ length (numbers pair) = length-map (numbers pair) (λ n. (class_of table pair, n)) in
    omega (arith, few_noted numbers table pairs few, few pair, as_many, length-append noted (noted_by numbers table pairs))

like_itself : (pair : Edge × Sample) → same_places pair pair ≡ true
like_itself pair = elim (tells_locks (places_of pair) (places_of pair)) [ inl same ↦ same.0 | inr other ↦ absurd (other.1 refl) ]

-- an element of a list is one of it
contains_at : {X : Type 0} (xs : List X) (i : ℕ) (d : X) → i < length xs → Contains xs (get_or xs i d)
contains_at xs i d within = (i, within, get_or_from_slice_get xs i (get_or xs i d) (get_or xs i d) (slice_get-get_or xs i d within))

module _ (table : List (Edge × Sample)) where
  -- the class of an edge of the table is a position of the table
  class_within : (pair : Edge × Sample) → Contains table pair → class_of table pair < length table
  class_within pair (k, below, is) =
      elim (cases_lt k (class_of table pair)) [
        | inl before ↦ absurd (false≢true (sym (fails_before_first (same_places pair) table k pair before) ∙ ap (same_places pair) is ∙ like_itself pair))
        | inr there ↦ omega (arith, below, there)
      ]

  -- where an edge of the same places stands
  at_class : (d pair : Edge × Sample) → Contains table pair → places_of pair ≡ places_of (get_or table (class_of table pair) d)
  at_class d pair among =
      elim (tells_locks (places_of pair) (places_of (get_or table (class_of table pair) d))) [
        | inl same ↦ same.1
        | inr other ↦ absurd (false≢true (sym other.0 ∙ passes_at_first (same_places pair) table d (class_within pair among)))
      ]

  -- edges of the table have one class where they were made at the same places
  alike : (pair p : Edge × Sample) → Contains table pair → Contains table p → nat_eq (class_of table p) (class_of table pair) ≡ same_places pair p
  alike pair p among also =
      elim (tells_locks (places_of pair) (places_of p)) [
        | inl same ↦ same_back (class_of table pair) (class_of table p) (ap (λ q. position_or_len (λ x. are_places q (places_of x)) table) same.1) ∙ sym same.0
        | inr other ↦
            other_back (class_of table pair) (class_of table p) (λ is. other.1 (at_class pair pair among ∙ ap (λ k. places_of (get_or table k pair)) is ∙ sym (at_class pair p also)))
            ∙ sym other.0
      ]

-- the numbers that are noted of one edge
numbers_one : (class c : ℕ) (l : List ℕ) (b : Bool) → nat_eq c class ≡ b → numbers_of class (map (λ n. (c, n)) l) ≡ cond b l []
numbers_one class c [] true is = refl
numbers_one class c [] false is = refl
numbers_one class c (n ∷ l) true is =
    let rest = filter (λ q. nat_eq q.0 class) (map (λ n. (c, n)) l) in
    ap (λ t. map (λ q. q.1) (cond t ((c, n) ∷ rest) rest)) is ∙ ap (λ r. n ∷ r) (numbers_one class c l true is)
numbers_one class c (n ∷ l) false is =
    let rest = filter (λ q. nat_eq q.0 class) (map (λ n. (c, n)) l) in
    ap (λ t. map (λ q. q.1) (cond t ((c, n) ∷ rest) rest)) is ∙ numbers_one class c l false is

numbers_append : (class : ℕ) (front rest : List (ℕ × ℕ)) → numbers_of class (front ++ rest) ≡ numbers_of class front ++ numbers_of class rest
numbers_append class front rest =
    ap (map (λ q. q.1)) (filter-append (λ q. nat_eq q.0 class) front rest) ∙ map-append (λ q. q.1) (filter (λ q. nat_eq q.0 class) front) (filter (λ q. nat_eq q.0 class) rest)

-- the numbers of a class are those of the edges that were made at its places
numbers_are : (numbers : Edge × Sample → List ℕ) (table : List (Edge × Sample)) (pair : Edge × Sample) → Contains table pair → (pairs : List (Edge × Sample)) → All (Contains table) pairs
    → numbers_of (class_of table pair) (noted_by numbers table pairs) ≡ flat_map numbers (filter (same_places pair) pairs)
numbers_are numbers table pair among [] all = refl
numbers_are numbers table pair among (p ∷ pairs) all =
    let class = class_of table pair in
    let first = alike table pair p among (All-head (Contains table) p pairs all) in
    let rest = numbers_are numbers table pair among pairs (All-tail (Contains table) p pairs all) in
    numbers_append class (map (λ n. (class_of table p, n)) (numbers p)) (noted_by numbers table pairs)
    ∙ ap (λ l. l ++ numbers_of class (noted_by numbers table pairs)) (numbers_one class (class_of table p) (numbers p) (same_places pair p) first)
    ∙ ap (λ l. cond (same_places pair p) (numbers p) [] ++ l) rest ∙ by (same_places pair p) (filter (same_places pair) pairs)
  where
    by : (b : Bool) (kept : List (Edge × Sample)) → cond b (numbers p) [] ++ flat_map numbers kept ≡ flat_map numbers (cond b (p ∷ kept) kept)
    by true kept = refl
    by false kept = refl

-- the counts of an edge's class
class_counts_are : (table : List (Edge × Sample)) (pair : Edge × Sample) (thread_counts lock_counts : List ℕ) (class : ℕ) (counts : ClassCounts) → Contains table pair → class ≡ class_of table pair
    → AreCounted (noted_by threads_of table table) thread_counts → AreCounted (noted_by locks_of table table) lock_counts → slice_get thread_counts class ≡ Some counts.threads → slice_get lock_counts class ≡ Some counts.locks
    → counts ≡ counts_of table pair
class_counts_are table pair thread_counts lock_counts class counts among is thread_counted lock_counted thread_at lock_at =
    let all = All-contains_itself table in
    let of_threads : counts.threads ≡ (counts_of table pair).threads =
    thread_counted class counts.threads thread_at ∙ ap (λ c. distinct_count nat_eq (numbers_of c (noted_by threads_of table table))) is
    ∙ ap (distinct_count nat_eq) (numbers_are threads_of table pair among table all ∙ flat_map_single (λ p. p.0.thread) (filter (same_places pair) table)) in
    let of_locks : counts.locks ≡ (counts_of table pair).locks =
    lock_counted class counts.locks lock_at ∙ ap (λ c. distinct_count nat_eq (numbers_of c (noted_by locks_of table table))) is ∙ ap (distinct_count nat_eq) (numbers_are locks_of table pair among table all) in
    λ k. record { threads = of_threads k; locks = of_locks k }

module _ (table : List (Edge × Sample)) (classes : List ℕ) (same : classes ≡ classes_of table) (i : ℕ) (within : i < length table) where
  class_is : (d : Edge × Sample) → get_or classes i 0 ≡ class_of table (get_or table i d)
  class_is d = ap (λ l. get_or l i 0) same ∙ get_or-map (class_of table) table i d 0 within

  -- the class of the edge at a position is a position of the table
  pub class_below : get_or classes i 0 < length table
  class_below =
      let (pair, at) = element_at table i within in
      omega (arith, class_is pair, class_within table (get_or table i pair) (contains_at table i pair within))

  module _ (seen : ℕ × ℕ → Bool) (counts : List ℕ) (d : Edge × Sample) where
    -- the thread of one edge more is noted
    pub thread_noted : (thread : ℕ) → thread ≡ (get_or table i d).0.thread → IsTally (noted_by threads_of table (take i table) ++ (get_or classes i 0, thread) ∷ []) seen counts
        → IsTally (noted_by threads_of table (take (i + 1) table)) seen counts
    thread_noted thread is tally =
        subst (λ noted. IsTally noted seen counts) (ap (λ q. noted_by threads_of table (take i table) ++ q ∷ []) (λ k. (class_is d k, is k)) ∙ sym (threads_more table i d within)) tally

    -- and the locks of one edge more
    pub locks_noted : (held wanted : ℕ) → held ≡ (get_or table i d).0.held → wanted ≡ (get_or table i d).0.wanted
        → IsTally ((noted_by locks_of table (take i table) ++ (get_or classes i 0, held) ∷ []) ++ (get_or classes i 0, wanted) ∷ []) seen counts → IsTally (noted_by locks_of table (take (i + 1) table)) seen counts
    locks_noted held wanted is_held is_wanted tally =
        subst (λ noted. IsTally noted seen counts)
        (ap (λ q. (noted_by locks_of table (take i table) ++ q ∷ []) ++ (get_or classes i 0, wanted) ∷ []) (λ k. (class_is d k, is_held k))
        ∙ ap (λ q. (noted_by locks_of table (take i table) ++ (class_of table (get_or table i d), (get_or table i d).0.held) ∷ []) ++ q ∷ []) (λ k. (class_is d k, is_wanted k)) ∙ sym (locks_more table i d within)) tally

  -- the counts of one edge more
  pub counts_more : (thread_counts lock_counts : List ℕ) (counts : ClassCounts) (now more : List ClassCounts) → AreCounted (noted_by threads_of table table) thread_counts → AreCounted (noted_by locks_of table table) lock_counts
      → slice_get thread_counts (get_or classes i 0) ≡ Some counts.threads → slice_get lock_counts (get_or classes i 0) ≡ Some counts.locks
      → now ≡ map (counts_of table) (take i table) → more ≡ now ++ counts ∷ [] → more ≡ map (counts_of table) (take (i + 1) table)
  counts_more thread_counts lock_counts counts now more thread_counted lock_counted thread_at lock_at before push =
      let (d, at) = element_at table i within in
      let pair = get_or table i d in
      push ∙ ap (λ l. l ++ counts ∷ []) before
      ∙ ap (λ c. map (counts_of table) (take i table) ++ c ∷ []) (class_counts_are table pair thread_counts lock_counts (get_or classes i 0) counts (contains_at table i d within) (class_is d) thread_counted lock_counted thread_at lock_at)
      ∙ sym (ap (map (counts_of table)) (take_more table i d within) ∙ map-append (counts_of table) (take i table) (pair ∷ []))
