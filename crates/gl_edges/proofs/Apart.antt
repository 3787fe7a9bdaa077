-- Edges of different threads: those of lists that follow one another, one after the other.
use Rattle.std.proofs.Common.{◌≡◌, ℕ, zero, suc, ◌+◌, ◌-◌, ◌<◌, ◌≤◌, List, [], ◌∷◌, ◌++◌, length, get_or, map, take, drop, Some, Result, Ok, Err, refl, sym, ap, subst, ◌∙◌, arith}
use Rattle.std.specs.Prelude.{Contains, slice_get, IfOk, MatchResult}
use Rattle.std.specs.Cmp.{nat_cmp_is}
use Rattle.std.specs.Cmp.Lexicographic.{slice_cmp}
use Rattle.std.specs.List.{flat_map, enumerate_from, AllByRecursion, AllZip, range_with_len}
use Rattle.std.specs.List.Sorted.{IsStrictlySortedBy}
use Rattle.std.specs.Ordering.{nat_cmp, on, ordering_then, then_cmp}
use Rattle.std.specs.declared.cmp.Ordering.{Ordering}
use Rattle.std.specs.declared.cmp.Ordering.TheVariants.{Less}
use Rattle.std.proofs.Math.Seq.{take-add}
use Rattle.std.proofs.lemmas.Grind.{flat_map-append}
use Rattle.std.proofs.lemmas.List.{append-nil, drop-drop, drop-map, take-map, take_rest, length-drop, length-take-le}
use Rattle.std.proofs.lemmas.Option.{slice_get_within}
use Rattle.gl_event.specs.declared.events.Event.{Event}
use Rattle.gl_event.specs.Modes.{mode_cmp}
use Rattle.gl_edges.specs.Edges.{edges, edges_at, edges_of_list, edges_made_from, once}
use Rattle.gl_edges.specs.Guards.{guard_cmp}
use Rattle.gl_edges.specs.Order.{edge_cmp, AreAscending}
use Rattle.gl_edges.specs.bodies.Sharing.{lists_of_share, edges_of_share, FollowOn}
use Rattle.gl_edges.specs.declared.edge.Edge.{Edge}
use Rattle.gl_edges.specs.declared.edge.Sample.{Sample}
use Rattle.gl_edges.specs.declared.parallel.Share.{Share}
use Rattle.gl_edges.proofs.Filling.{once_of_ascending, once_of_none}
use Rattle.gl_edges.proofs.Made.{at_from, contains_enumerate_from}
use Rattle.gl_edges.proofs.Membership.{contains_here, contains_later, contains_flat_map_from}
use Rattle.gl_edges.proofs.Merging.{once_merged}
use Rattle.gl_edges.proofs.Tables.{once_ascends, once_is_least}

-- ---- lists in order, one after the other

-- what holds of each of two lists holds of both together
all_append : {X : Type 0} (P : X → Type 0) (xs ys : List X) → AllByRecursion P xs → AllByRecursion P ys → AllByRecursion P (xs ++ ys)
all_append P [] ys left right = right
all_append P (x ∷ xs) ys left right = (left.0, all_append P xs ys left.1 right)

-- the edges of these pairs are above one
all_above : (edge : Edge) (ys : List (Edge × Sample)) → ((y : Edge × Sample) → Contains ys y → edge_cmp edge y.0 ≡ Less) → AllByRecursion (λ q. edge_cmp edge q ≡ Less) (map (λ pair. pair.0) ys)
all_above edge [] above = record {}
all_above edge (y ∷ ys) above = (above y (contains_here y ys), all_above edge ys (λ z at. above z (contains_later y z ys at)))

-- two ascending lists, where each edge of the first is below each of the second, ascend together
ascending_append : (xs ys : List (Edge × Sample)) → AreAscending xs → AreAscending ys → ((x y : Edge × Sample) → Contains xs x → Contains ys y → edge_cmp x.0 y.0 ≡ Less) → AreAscending (xs ++ ys)
unfolding IsStrictlySortedBy
ascending_append [] ys left right below = right
ascending_append (x ∷ xs) ys left right below = (
  subst (AllByRecursion (λ q. edge_cmp x.0 q ≡ Less)) (sym (map_append xs ys))
      (all_append (λ q. edge_cmp x.0 q ≡ Less) (map (λ pair. pair.0) xs) (map (λ pair. pair.0) ys) left.0 (all_above x.0 ys (λ y at. below x y (contains_here x xs) at))),
  ascending_append xs ys left.1 right (λ a b at other. below a b (contains_later x a xs at) other),
)
  where
    map_append : (front rest : List (Edge × Sample)) → map (λ pair. pair.0) (front ++ rest) ≡ map (λ pair. pair.0) front ++ map (λ pair. pair.0) rest
    map_append [] rest = refl
    map_append (a ∷ front) rest = ap (λ edges. a.0 ∷ edges) (map_append front rest)

-- ---- edges of lesser threads come first

-- what is less by the first of two orders is less by both
first_less : {K : Type 0} (R S : K → K → Ordering) (a b : K) → R a b ≡ Less → then_cmp R S a b ≡ Less
first_less R S a b is = ap (λ o. ordering_then o (S a b)) is

-- edges by what they are ordered by after the thread
abbrev by_later_fields : Edge → Edge → Ordering
by_later_fields =
    then_cmp (on (λ e. e.held) nat_cmp)
    (then_cmp (on (λ e. e.held_mode) mode_cmp)
    (then_cmp (on (λ e. e.wanted) nat_cmp)
    (then_cmp (on (λ e. e.wanted_mode) mode_cmp)
    (then_cmp (on (λ e. e.first) nat_cmp)
    (then_cmp (on (λ e. e.second) nat_cmp) (on (λ e. e.guards) (slice_cmp guard_cmp)))))))

-- an edge of a lesser thread is below
below_by_thread : (a b : Edge) → a.thread < b.thread → edge_cmp a b ≡ Less
below_by_thread a b less = first_less (on (λ e. e.thread) nat_cmp) by_later_fields a b (sym (nat_cmp_is a.thread b.thread Less less))

-- pairs of lesser threads and those of greater ones are taken once one after the other
pub once_apart : (xs ys : List (Edge × Sample)) → ((x y : Edge × Sample) → Contains xs x → Contains ys y → x.0.thread < y.0.thread) → once (xs ++ ys) ≡ once xs ++ once ys
once_apart xs ys apart =
    sym (once_merged xs ys)
    ∙ once_of_ascending (once xs ++ once ys)
    (ascending_append (once xs) (once ys) (once_ascends xs) (once_ascends ys)
    (λ x y at other. below_by_thread x.0 y.0 (apart x y (once_is_least xs x.0 x.1 at).here (once_is_least ys y.0 y.1 other).here)))

-- ---- the threads of lists

-- the thread of a pair, and the numbers that it lies between
record IsNumbered (first count thread : ℕ) : Type 0 where
  -- not below the first
  pub least : first ≤ thread
  -- below the one after the last
  pub most : thread < first + count

-- the edges of a list are of its thread
of_thread : (thread : ℕ) (es : List Event) (pair : Edge × Sample) → Contains (edges_of_list thread es) pair → pair.0.thread ≡ thread
of_thread thread es pair at =
    let (place, in_range, at_it) = contains_flat_map_from (edges_at thread es) pair (range_with_len 0 (length es)) at in
    let (wanted, mode, loc, acquires, made) = at_from thread es place pair at_it in
    sym (ap (λ p. p.0.thread) made.is)

-- the edges of lists are of their threads
numbered_from : (first : ℕ) (lists : List (List Event)) (pair : Edge × Sample) → Contains (edges_made_from first lists) pair → IsNumbered first (length lists) pair.0.thread
numbered_from first lists pair at =
    let (numbered, there, of_list) = contains_flat_map_from (λ numbered. edges_of_list numbered.0 numbered.1) pair (enumerate_from first lists) at in
    let (i, number, list) = contains_enumerate_from first lists numbered there in
    let thread = of_thread numbered.0 numbered.1 pair of_list in
    let within = slice_get_within lists i numbered.1 list in
    record { least = omega (arith, number, thread); most = omega (arith, number, thread, within) }

-- the numbers of lists that follow others
enumerate_append : (first : ℕ) (xs ys : List (List Event)) → enumerate_from first (xs ++ ys) ≡ enumerate_from first xs ++ enumerate_from (first + length xs) ys
enumerate_append first [] ys = ap (λ n. enumerate_from n ys) (omega arith)
enumerate_append first (x ∷ xs) ys =
    ap (λ rest. (first, x) ∷ rest) (enumerate_append (first + 1) xs ys)
    ∙ ap (λ n. (first, x) ∷ (enumerate_from (first + 1) xs ++ enumerate_from n ys)) (omega arith)

-- the edges of lists that follow others come after theirs
edges_append : (first : ℕ) (xs ys : List (List Event)) → edges_made_from first (xs ++ ys) ≡ edges_made_from first xs ++ edges_made_from (first + length xs) ys
edges_append first xs ys =
    ap (flat_map (λ numbered. edges_of_list numbered.0 numbered.1)) (enumerate_append first xs ys)
    ∙ flat_map-append (λ numbered. edges_of_list numbered.0 numbered.1) (enumerate_from first xs) (enumerate_from (first + length xs) ys)

-- taken once too
once_append : (first : ℕ) (xs ys : List (List Event)) → once (edges_made_from first xs) ++ once (edges_made_from (first + length xs) ys) ≡ once (edges_made_from first (xs ++ ys))
once_append first xs ys =
    sym
    (once_apart (edges_made_from first xs) (edges_made_from (first + length xs) ys)
    (λ x y at other.
    let low = numbered_from first xs x at in
    let high = numbered_from (first + length xs) ys y other in
    omega (arith, low.most, high.least)))
    ∙ sym (ap once (edges_append first xs ys))

-- ---- shares

-- shares that follow one another don't go back
pub goes_on : (from : ℕ) (shares : List Share) (to : ℕ) → FollowOn from shares to → from ≤ to
goes_on from [] to are = omega (arith, are)
goes_on from (share ∷ rest) to are =
    let (begins, forth, later) = are in
    let h = goes_on share.to rest to later in
    omega (arith, begins, forth, h)

-- one more share
pub follow_push : (from : ℕ) (shares : List Share) (to : ℕ) (share : Share) → FollowOn from shares to → share.from ≡ to → share.from ≤ share.to → FollowOn from (shares ++ share ∷ []) share.to
follow_push from [] to share are begins forth = (begins ∙ sym are, forth, refl)
follow_push from (first ∷ rest) to share are begins forth = (are.0, are.1, follow_push first.to rest to share are.2 begins forth)

-- the lists up to a position, and those from there to another one
split : (lists : List (List Event)) (from middle to : ℕ) → from ≤ middle → middle ≤ to
    → take (to - from) (drop from lists) ≡ take (middle - from) (drop from lists) ++ take (to - middle) (drop middle lists)
split lists from middle to forth after =
    ap (λ n. take n (drop from lists)) (omega (arith, after, forth))
    ∙ take-add (middle - from) (to - middle) (drop from lists)
    ∙ ap (λ ls. take (middle - from) (drop from lists) ++ take (to - middle) ls) (drop-drop (middle - from) from lists ∙ ap (λ n. drop n lists) (omega (arith, forth)))

-- where the lists up to a position end
pub ends_at : {X : Type 0} (lists : List X) (from middle : ℕ) → from ≤ middle → middle ≤ length lists → from + length (take (middle - from) (drop from lists)) ≡ middle
ends_at lists from middle forth within =
    ap (λ n. from + n) (length-take-le (middle - from) (drop from lists) (let long = length-drop from lists in omega (arith, long, within, forth)))
    ∙ omega (arith, forth)

-- the edges of the lists up to a position, and those of the lists from there to another one
both_parts : (lists : List (List Event)) (from middle to : ℕ) → from ≤ middle → middle ≤ to → to ≤ length lists
    → once (edges_made_from from (take (middle - from) (drop from lists))) ++ once (edges_made_from middle (take (to - middle) (drop middle lists)))
    ≡ once (edges_made_from from (take (to - from) (drop from lists)))
both_parts lists from middle to forth after within =
    ap (λ n. once (edges_made_from from (take (middle - from) (drop from lists))) ++ once (edges_made_from n (take (to - middle) (drop middle lists))))
    (sym (ends_at lists from middle forth (omega (arith, after, within))))
    ∙ once_append from (take (middle - from) (drop from lists)) (take (to - middle) (drop middle lists))
    ∙ ap (λ both. once (edges_made_from from both)) (sym (split lists from middle to forth after))

-- the lists of a share, whatever they are made of
pub map_share : {X : Type 0} (items : X → List Event) (lists : List X) (share : Share) → lists_of_share (map items lists) share ≡ map items (take (share.to - share.from) (drop share.from lists))
map_share items lists share = ap (take (share.to - share.from)) (drop-map items share.from lists) ∙ take-map items (share.to - share.from) (drop share.from lists)

-- what is among the first is at the same place of all
taken_at : {X : Type 0} (xs : List X) (n i : ℕ) (x : X) → slice_get (take n xs) i ≡ Some x → slice_get xs i ≡ Some x
taken_at [] zero i x is = is
taken_at [] (suc n) i x is = is
taken_at (y ∷ xs) zero i x is = absurd (cc)
taken_at (y ∷ xs) (suc n) zero x is = is
taken_at (y ∷ xs) (suc n) (suc i) x is = taken_at xs n i x is

-- what is after the first stands so much later among all
dropped_at : {X : Type 0} (xs : List X) (n i : ℕ) (x : X) → slice_get (drop n xs) i ≡ Some x → slice_get xs (n + i) ≡ Some x
dropped_at xs zero i x is = let same : i ≡ 0 + i = omega arith in subst (λ k. slice_get xs k ≡ Some x) same is
dropped_at [] (suc n) i x is = is
dropped_at (y ∷ xs) (suc n) i x is = let same : suc (n + i) ≡ suc n + i = omega arith in subst (λ k. slice_get (y ∷ xs) k ≡ Some x) same (dropped_at xs n i x is)

-- a list of a share is one of all lists
pub list_of_share : {X : Type 0} (items : X → List Event) (lists : List X) (share : Share) (i : ℕ) (es : List Event)
    → slice_get (map items (take (share.to - share.from) (drop share.from lists))) i ≡ Some es → slice_get (map items lists) (share.from + i) ≡ Some es
list_of_share items lists share i es is =
    dropped_at (map items lists) share.from i es
    (taken_at (drop share.from (map items lists)) (share.to - share.from) i es
    (subst (λ ls. slice_get ls i ≡ Some es) (sym (map_share items lists share)) is))

-- each of the shares ends where it begins or later, and not after the last one
pub share_within : (from : ℕ) (shares : List Share) (to : ℕ) → FollowOn from shares to → (k : ℕ) (d : Share) → k < length shares
    → ((get_or shares k d).from ≤ (get_or shares k d).to) × ((get_or shares k d).to ≤ to)
share_within from [] to are k d within = absurd (omega (arith, within))
share_within from (share ∷ rest) to are zero d within = (are.1, goes_on share.to rest to are.2)
share_within from (share ∷ rest) to are (suc k) d within = share_within share.to rest to are.2 k d (omega (arith, within))

-- of an answer that is one
pub if_ok : {V E : Type 0} (r : Result V E) (P R : V → Type 0) (Q : E → Type 0) → MatchResult r P Q → ((v : V) → P v → R v) → IfOk r R
if_ok (Ok v) P R Q is then = then v is
if_ok (Err e) P R Q is then = tt

-- the edges of each share, where each answer has them
pub pieces_of : {V : Type 0} (E : Type 0) (f : Share → V) (shares : List Share) (pieces : List V)
    → AllZip (λ share (r : Result V E). IfOk r (λ piece. piece ≡ f share)) shares (map Ok pieces) → pieces ≡ map f shares
pieces_of E f [] [] all = refl
pieces_of E f [] (piece ∷ pieces) all = absurd all
pieces_of E f (share ∷ shares) [] all = absurd all
pieces_of E f (share ∷ shares) (piece ∷ pieces) all = (λ i. all.0 i ∷ pieces_of E f shares pieces all.1 i)

-- joined, they are those of each share
pub flat_pieces : {X Y : Type 0} (f : X → List Y) (xs : List X) → flat_map (λ piece. piece) (map f xs) ≡ flat_map f xs
flat_pieces f [] = refl
flat_pieces f (x ∷ xs) = ap (λ rest. f x ++ rest) (flat_pieces f xs)

-- the edges of all shares, one after the other, are those of all their lists
pub edges_of_shares : (lists : List (List Event)) (from : ℕ) (shares : List Share) (to : ℕ) → FollowOn from shares to → to ≤ length lists
    → flat_map (edges_of_share lists) shares ≡ once (edges_made_from from (take (to - from) (drop from lists)))
edges_of_shares lists from [] to are within =
    let none : to - from ≡ 0 = omega (arith, are) in
    sym (ap (λ n. once (edges_made_from from (take n (drop from lists)))) none ∙ once_of_none)
edges_of_shares lists from (share ∷ rest) to are within =
    let (begins, on_from_there, later) = are in
    let forth : from ≤ share.to = omega (arith, begins, on_from_there) in
    ap (λ edges. edges_of_share lists share ++ edges) (edges_of_shares lists share.to rest to later within)
    ∙ ap (λ n. once (edges_made_from n (take (share.to - n) (drop n lists))) ++ once (edges_made_from share.to (take (to - share.to) (drop share.to lists)))) begins
    ∙ both_parts lists from share.to to forth (goes_on share.to rest to later) within

-- of all lists
pub all_shares : (lists : List (List Event)) (shares : List Share) (pieces : List (List (Edge × Sample))) → FollowOn 0 shares (length lists) → pieces ≡ map (edges_of_share lists) shares
    → flat_map (λ piece. piece) pieces ≡ edges lists
all_shares lists shares pieces are is =
    ap (flat_map (λ piece. piece)) is
    ∙ flat_pieces (edges_of_share lists) shares
    ∙ edges_of_shares lists 0 shares (length lists) are (omega arith)
    ∙ ap (λ all. once (edges_made_from 0 all)) (take_rest lists 0)

-- ---- a share of one list

-- what has one element has the first one alone
pub first_only : {X : Type 0} (xs : List X) (x : X) → 1 ≤ length xs → length xs < 2 → x ≡ get_or xs 0 x → xs ≡ x ∷ []
first_only [] x some few is = absurd (omega (arith, some))
first_only (y ∷ []) x some few is = ap (λ z. z ∷ []) (sym is)
first_only (y ∷ (z ∷ rest)) x some few is = absurd (omega (arith, few))

module _ {X : Type 0} (items : X → List Event) (lists : List X) (share : Share) (x : X) (only : take (share.to - share.from) (drop share.from lists) ≡ x ∷ []) where
  -- it is one of all lists
  pub only_list : slice_get (map items lists) share.from ≡ Some (items x)
  only_list =
      let there : share.from + 0 ≡ share.from = omega arith in
      subst (λ k. slice_get (map items lists) k ≡ Some (items x)) there
      (list_of_share items lists share 0 (items x) (subst (λ xs. slice_get (map items xs) 0 ≡ Some (items x)) (sym only) refl))

  -- and the edges of the share are those of that list
  pub only_edges : once (edges_of_list share.from (items x)) ≡ edges_of_share (map items lists) share
  only_edges =
      sym
      (ap (λ ls. once (edges_made_from share.from ls)) (map_share items lists share ∙ ap (map items) only)
      ∙ ap once (append-nil (edges_of_list share.from (items x))))
