-- Pairs that are sorted and then freed of repeated edges: each edge once, ascending, with its least sample.
use Rattle.std.proofs.Common.{◌≡◌, ℕ, zero, suc, inl, inr, Bool, true, false, cond, List, [], ◌∷◌, ◌++◌, map, take, drop, refl, sym, ap, subst, ◌∙◌, arith}
use Rattle.std.specs.Prelude.{Contains, All}
use Rattle.std.specs.Cmp.{IsTotalOrder, on_total, then_total}
use Rattle.std.specs.List.{dedup, dedup_from, AllByRecursion, AllPairs}
use Rattle.std.specs.List.Sorted.{IsPermutation, IsSorted, IsStrictlySortedBy}
use Rattle.std.specs.Ordering.{eq_by_cmp, is_eq, is_le, is_lt, ordering_then}
use Rattle.std.specs.declared.cmp.Ordering.{Ordering}
use Rattle.std.specs.declared.cmp.Ordering.TheVariants.{Less, Equal, Greater}
use Rattle.std.proofs.lemmas.List.{append-nil, append_assoc, take-append-drop}
use Rattle.std.proofs.lemmas.List.Elements.{All-head, All-tail, Contains-append_cases, Contains-append_left, Contains-append_right}
use Rattle.std.proofs.lemmas.List.Kept.{IsStrictlySortedBy-dedup}
use Rattle.std.proofs.lemmas.List.Sorted.{Contains-permutation, IsPermutation-sym, ranks_by, sorted_far}
use Rattle.gl_edges.specs.Edges.{once}
use Rattle.gl_edges.specs.Order.{edge_cmp, sample_cmp, AreAscending}
use Rattle.gl_edges.specs.bodies.Batches.{pair_cmp}
use Rattle.gl_edges.specs.declared.edge.Edge.{Edge}
use Rattle.gl_edges.specs.declared.edge.Sample.{Sample}
use Rattle.gl_edges.proofs.Filling.{once_before, once_behind}
use Rattle.gl_edges.proofs.Least.{not_below_itself, same_once, tied}
use Rattle.gl_edges.proofs.Membership.{contains_cases, contains_here, contains_later, contains_none}
use Rattle.gl_edges.proofs.Merging.{once_of_lesser}
use Rattle.gl_edges.proofs.Orders.{edge_cmp_exact, edge_cmp_total, sample_cmp_total}
use Rattle.gl_edges.proofs.Tables.{not_below}

-- by edge alone
abbrev by_edge : Edge × Sample → Edge × Sample → Ordering
by_edge a b = edge_cmp a.0 b.0

-- they have the same edge
abbrev pub same_edge : Edge × Sample → Edge × Sample → Bool
same_edge a b = eq_by_cmp edge_cmp a.0 b.0

by_edge_total : IsTotalOrder by_edge
by_edge_total = on_total (λ (pair : Edge × Sample). pair.0) edge_cmp_total

pair_total : IsTotalOrder pair_cmp
pair_total = then_total by_edge_total (on_total (λ (pair : Edge × Sample). pair.1) sample_cmp_total)

-- what isn't below is not below by the first of two orders
first_not_below : (a b : Ordering) → is_lt (ordering_then a b) ≡ false → is_lt a ≡ false
first_not_below Less b e = e
first_not_below Equal b e = refl
first_not_below Greater b e = refl

-- nor by the second, where the first ties
second_not_below : (a b : Ordering) → is_eq a ≡ true → is_lt (ordering_then a b) ≡ false → is_lt b ≡ false
second_not_below Less b tie e = absurd (cc)
second_not_below Equal b tie e = e
second_not_below Greater b tie e = absurd (cc)

-- sorted pairs are sorted by their edges
sorted_by_edge : (pairs : List (Edge × Sample)) → IsSorted pair_cmp pairs → IsSorted by_edge pairs
sorted_by_edge pairs sorted = λ k d low high. first_not_below _ _ (sorted k d low high)

-- an edge below all others
below_edges : (pair : Edge × Sample) (pairs : List (Edge × Sample)) → AllByRecursion (λ q. by_edge pair q ≡ Less) pairs
    → AllByRecursion (λ q. edge_cmp pair.0 q ≡ Less) (map (λ p. p.0) pairs)
below_edges pair [] all = all
below_edges pair (p ∷ pairs) all = (all.0, below_edges pair pairs all.1)

-- pairs that ascend strictly by their edges have edges that do
edges_ascend : (pairs : List (Edge × Sample)) → IsStrictlySortedBy by_edge pairs → AreAscending pairs
unfolding IsStrictlySortedBy
edges_ascend [] all = all
edges_ascend (pair ∷ pairs) all = (below_edges pair pairs all.0, edges_ascend pairs all.1)

-- sorted pairs that are freed of repeats ascend
freed_ascends : (pairs : List (Edge × Sample)) → IsSorted pair_cmp pairs → AreAscending (dedup same_edge pairs)
freed_ascends pairs sorted = edges_ascend _ (IsStrictlySortedBy-dedup by_edge_total (λ a b. refl) pairs (sorted_by_edge pairs sorted))

-- a later pair of the same edge, whose sample is not below, adds nothing
second_adds_none : (first second : Edge × Sample) (pairs : List (Edge × Sample)) → second.0 ≡ first.0 → is_lt (sample_cmp second.1 first.1) ≡ false
    → once (first ∷ pairs) ≡ once (first ∷ second ∷ pairs)
second_adds_none first second pairs same above =
    once_of_lesser (first ∷ pairs) (first ∷ second ∷ pairs)
    (λ pair at.
    elim (contains_cases first pair pairs at) [
      | inl is ↦ subst (Contains (first ∷ second ∷ pairs)) is (contains_here first (second ∷ pairs))
      | inr later ↦ contains_later first pair (second ∷ pairs) (contains_later second pair pairs later)
    ])
    (λ edge other at.
    elim (contains_cases first (edge, other) (second ∷ pairs) at) [
      | inl is ↦ (
        first.1,
        subst (λ e. Contains (first ∷ pairs) (e, first.1)) (ap (λ p. p.0) is) (contains_here first pairs),
        not_below_itself sample_cmp_total first.1 other (sym (ap (λ p. p.1) is)),
      )
      | inr rest ↦
          elim (contains_cases second (edge, other) pairs rest) [
            | inl is ↦ (
              first.1,
              subst (λ e. Contains (first ∷ pairs) (e, first.1)) (sym same ∙ ap (λ p. p.0) is) (contains_here first pairs),
              subst (λ s. is_lt (sample_cmp s first.1) ≡ false) (ap (λ p. p.1) is) above,
            )
            | inr later ↦ (other, contains_later first (edge, other) pairs later, not_below_itself sample_cmp_total other other refl)
          ]
    ])

-- pairs that are freed of repeats from one on have the same edges, with the same least samples
freed_from_same : (pairs : List (Edge × Sample)) (last : Edge × Sample) → All (λ p. is_lt (pair_cmp p last) ≡ false) pairs
    → AllPairs (λ a b. is_lt (pair_cmp b a) ≡ false) pairs → once (dedup_from same_edge last pairs) ≡ once (last ∷ pairs)
freed_from_same [] last above up = refl
freed_from_same (pair ∷ pairs) last above up =
    let rest : AllPairs (λ a b. is_lt (pair_cmp b a) ≡ false) pairs = λ i j d below inside. up (suc i) (suc j) d (omega arith) (omega arith) in
    let from_pair : All (λ p. is_lt (pair_cmp p pair) ≡ false) pairs = λ j d inside. up zero (suc j) d (omega arith) (omega arith) in
    let low = All-head (λ p. is_lt (pair_cmp p last) ≡ false) pair pairs above in
    elim (same_edge pair last) as (λ b. same_edge pair last ≡ b → once (cond b (dedup_from same_edge last pairs) (last ∷ dedup_from same_edge pair pairs)) ≡ once (last ∷ pair ∷ pairs)) [
      | true ↦ λ tie.
          freed_from_same pairs last (All-tail (λ p. is_lt (pair_cmp p last) ≡ false) pair pairs above) rest
          ∙ second_adds_none last pair pairs (tied edge_cmp_exact pair.0 last.0 tie) (second_not_below _ _ tie low)
      | false ↦ λ apart.
          sym (once_behind (last ∷ []) (dedup_from same_edge pair pairs))
          ∙ ap (λ ps. once (last ∷ ps)) (freed_from_same pairs pair from_pair rest)
          ∙ once_behind (last ∷ []) (pair ∷ pairs)
    ] refl

-- and so have all
freed_same : (pairs : List (Edge × Sample)) → IsSorted pair_cmp pairs → once (dedup same_edge pairs) ≡ once pairs
freed_same [] sorted = refl
freed_same (pair ∷ pairs) sorted =
    let far : AllPairs (λ a b. is_lt (pair_cmp b a) ≡ false) (pair ∷ pairs) = λ i j d below inside. sorted_far _ (ranks_by pair_total (λ a. a)) (pair ∷ pairs) sorted i j d (omega arith) inside in
    freed_from_same pairs pair (λ j d inside. far zero (suc j) d (omega arith) (omega arith)) (λ i j d below inside. far (suc i) (suc j) d (omega arith) (omega arith))

-- behind others, pairs that have the same edges with the same least samples
pub once_alike : (ended pairs others : List (Edge × Sample)) → once others ≡ once pairs → once (ended ++ others) ≡ once (ended ++ pairs)
once_alike ended pairs others same = sym (once_behind ended others) ∙ ap (λ ps. once (ended ++ ps)) same ∙ once_behind ended pairs

-- what is left of pairs in another order, which are sorted and freed of repeats
module _ (pairs others left : List (Edge × Sample)) (same : IsPermutation pairs others) (sorted : IsSorted pair_cmp others) (freed : left ≡ dedup same_edge others) where
  -- it ascends
  pub left_ascends : AreAscending left
  left_ascends = subst AreAscending (sym freed) (freed_ascends others sorted)

  -- it has the same edges, with the same least samples
  pub left_same : once left ≡ once pairs
  left_same =
      ap once freed ∙ freed_same others sorted
      ∙ same_once others pairs (λ p at. Contains-permutation others pairs p (IsPermutation-sym pairs others same) at) (λ p at. Contains-permutation pairs others p same at)

-- ---- pairs of lists that ended, and those of the current one

-- one more pair of the current list, of which each edge may be taken once before
pub once_push : (ended pairs others : List (Edge × Sample)) (pair : Edge × Sample) → once others ≡ once pairs
    → once (ended ++ (others ++ pair ∷ [])) ≡ once (once (ended ++ pairs) ++ pair ∷ [])
once_push ended pairs others pair same =
    ap once (sym (append_assoc ended others (pair ∷ [])))
    ∙ sym (once_before (ended ++ others) (pair ∷ []))
    ∙ ap (λ ps. once (ps ++ pair ∷ [])) (once_alike ended pairs others same)

-- the current list ends
pub once_ended : (ended pairs left rest : List (Edge × Sample)) → once left ≡ once pairs → rest ≡ [] → once ((ended ++ left) ++ rest) ≡ once (ended ++ pairs)
once_ended ended pairs left rest same none = ap (λ r. once ((ended ++ left) ++ r)) none ∙ ap once (append-nil (ended ++ left)) ∙ once_alike ended pairs left same

-- what is among the first elements is among all
pub contains_in_front : {X : Type 0} (n : ℕ) (xs : List X) (x : X) → Contains (take n xs) x → Contains xs x
contains_in_front n xs x at = subst (λ ys. Contains ys x) (take-append-drop n xs) (Contains-append_left (take n xs) (drop n xs) x at)

-- a pair whose edge is among the current list's with a sample that isn't above adds nothing
pub known_adds_none : (ended pairs : List (Edge × Sample)) (edge : Edge) (sample known : Sample) → Contains pairs (edge, known) → is_le (sample_cmp known sample) ≡ true
    → once (once (ended ++ pairs) ++ (edge, sample) ∷ []) ≡ once (ended ++ pairs)
known_adds_none ended pairs edge sample known at low =
    let all = ended ++ pairs in
    once_before all ((edge, sample) ∷ [])
    ∙ sym
    (once_of_lesser all (all ++ (edge, sample) ∷ [])
    (λ pair there. Contains-append_left all ((edge, sample) ∷ []) pair there)
    (λ e other there.
    elim (Contains-append_cases all ((edge, sample) ∷ []) (e, other) there) [
      | inl left ↦ (other, left, not_below_itself sample_cmp_total other other refl)
      | inr last ↦
          elim (contains_cases (edge, sample) (e, other) [] last) [
            | inl is ↦ (
              known,
              subst (λ x. Contains all (x, known)) (ap (λ p. p.0) is) (Contains-append_right ended pairs (edge, known) at),
              subst (λ s. is_lt (sample_cmp s known) ≡ false) (ap (λ p. p.1) is) (ap is_lt (sample_cmp_total.antisymm sample known) ∙ not_below (sample_cmp known sample) low),
            )
            | inr none ↦ absurd (contains_none (e, other) none)
          ]
    ]))
