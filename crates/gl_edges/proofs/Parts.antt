-- The edges of a thread's events from one place up to another.
use Rattle.std.proofs.Common.{◌≡◌, ℕ, zero, suc, ◌+◌, ◌-◌, ◌<◌, ◌≤◌, List, [], ◌∷◌, ◌++◌, length, get_or, take, Some, refl, sym, ap, ◌∙◌, append_assoc, arith}
use Rattle.std.specs.Prelude.{slice_get}
use Rattle.std.specs.List.{flat_map, range_with_len}
use Rattle.std.proofs.lemmas.Grind.{flat_map-append}
use Rattle.std.proofs.lemmas.List.{append-nil}
use Rattle.std.proofs.lemmas.Option.{slice_get_read}
use Rattle.gl_event.specs.declared.events.Event.{Event}
use Rattle.gl_edges.specs.Edges.{edges_after, edges_at, edges_of_list, once}
use Rattle.gl_edges.specs.bodies.Sharing.{edges_between, edges_of_places, FollowOn}
use Rattle.gl_edges.specs.declared.edge.Edge.{Edge}
use Rattle.gl_edges.specs.declared.edge.Sample.{Sample}
use Rattle.gl_edges.specs.declared.parallel.Share.{Share}
use Rattle.gl_edges.proofs.Apart.{goes_on}
use Rattle.gl_edges.proofs.Filling.{once_before, once_behind}
use Rattle.gl_edges.proofs.Gathering.{edges_at_is}

-- so many places, and then so many more
range_add : (a n m : ℕ) → range_with_len a (n + m) ≡ range_with_len a n ++ range_with_len (a + n) m
range_add a zero m =
    let none : 0 + m ≡ m = omega arith in
    let here : a ≡ a + 0 = omega arith in
    ap (range_with_len a) none ∙ ap (λ k. range_with_len k m) here
range_add a (suc n) m =
    let more : suc n + m ≡ suc (n + m) = omega arith in
    let next : (a + 1) + n ≡ a + suc n = omega arith in
    ap (range_with_len a) more
    ∙ ap (λ rest. a ∷ rest) (range_add (a + 1) n m)
    ∙ ap (λ k. a ∷ (range_with_len (a + 1) n ++ range_with_len k m)) next

module _ (thread : ℕ) (es : List Event) where
  -- of no place
  pub between_none : (from : ℕ) → edges_between thread es from from ≡ []
  between_none from =
      let none : from - from ≡ 0 = omega arith in
      ap (λ n. flat_map (edges_at thread es) (range_with_len from n)) none

  -- of the places up to one, and of those from there on
  pub between_both : (from middle to : ℕ) → from ≤ middle → middle ≤ to → edges_between thread es from to ≡ edges_between thread es from middle ++ edges_between thread es middle to
  between_both from middle to forth after =
      let all : to - from ≡ (middle - from) + (to - middle) = omega (arith, forth, after) in
      let there : from + (middle - from) ≡ middle = omega (arith, forth) in
      ap (λ n. flat_map (edges_at thread es) (range_with_len from n)) all
      ∙ ap (flat_map (edges_at thread es)) (range_add from (middle - from) (to - middle))
      ∙ flat_map-append (edges_at thread es) (range_with_len from (middle - from)) (range_with_len (from + (middle - from)) (to - middle))
      ∙ ap (λ k. edges_between thread es from middle ++ flat_map (edges_at thread es) (range_with_len k (to - middle))) there

  -- of one place more
  pub between_more : (from i : ℕ) (e : Event) → from ≤ i → slice_get es i ≡ Some e → edges_between thread es from (i + 1) ≡ edges_between thread es from i ++ edges_after thread (take i es) e
  between_more from i e forth at =
      let one : (i + 1) - i ≡ 1 = omega arith in
      let on : i ≤ i + 1 = omega arith in
      between_both from i (i + 1) forth on
      ∙ ap (λ n. edges_between thread es from i ++ flat_map (edges_at thread es) (range_with_len i n)) one
      ∙ ap (λ xs. edges_between thread es from i ++ xs) (append-nil (edges_at thread es i) ∙ edges_at_is thread es i e at)

  -- of all places
  pub between_all : (to : ℕ) → to ≡ length es → edges_between thread es 0 to ≡ edges_of_list thread es
  between_all to is =
      let all : to - 0 ≡ length es = omega (arith, is) in
      ap (λ n. flat_map (edges_at thread es) (range_with_len 0 n)) all

  -- of the places of all shares, one after the other
  pub between_shares : (from : ℕ) (shares : List Share) (to : ℕ) → FollowOn from shares to → once (flat_map (edges_of_places thread es) shares) ≡ once (edges_between thread es from to)
  between_shares from [] to are = ap once (sym (ap (λ n. edges_between thread es from n) (sym are) ∙ between_none from))
  between_shares from (share ∷ rest) to are =
      let (begins, forth, later) = are in
      once_before (edges_between thread es share.from share.to) (flat_map (edges_of_places thread es) rest)
      ∙ sym (once_behind (edges_between thread es share.from share.to) (flat_map (edges_of_places thread es) rest))
      ∙ ap (λ xs. once (edges_between thread es share.from share.to ++ xs)) (between_shares share.to rest to later)
      ∙ once_behind (edges_between thread es share.from share.to) (edges_between thread es share.to to)
      ∙ ap once (sym (between_both share.from share.to to forth (goes_on share.to rest to later)))
      ∙ ap (λ n. once (edges_between thread es n to)) begins

-- the pairs then have the edges of one place more
pub pairs_place : (thread : ℕ) (es : List Event) (from i : ℕ) (e : Event) → from ≤ i → i < length es → e ≡ get_or es i e → (pairs : List (Edge × Sample)) → (pairs ++ edges_between thread es from i) ++ edges_after thread (take i es) e ≡ pairs ++ edges_between thread es from (i + 1)
pairs_place thread es from i e forth within item pairs =
    append_assoc pairs (edges_between thread es from i) (edges_after thread (take i es) e)
    ∙ ap (λ xs. pairs ++ xs) (sym (between_more thread es from i e forth (slice_get_read es (length es) i e refl within item)))
