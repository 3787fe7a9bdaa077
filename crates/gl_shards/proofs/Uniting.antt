-- Tables that are taken together, in whatever order and however many.
use Rattle.std.proofs.Common.{◌≡◌, ℕ, ◌≤◌, ◌<◌, inl, inr, Bool, true, false, cond, eqb, List, [], ◌∷◌, ◌++◌, map, filter, IsPermutation, refl, sym, ap, subst, ◌∙◌, arith}
use Rattle.std.specs.Prelude.{Contains}
use Rattle.std.specs.List.{range_with_len}
use Rattle.std.proofs.lemmas.Bool.{eq-eqb}
use Rattle.std.proofs.lemmas.List.{append-nil}
use Rattle.std.proofs.lemmas.List.Sorted.{IsPermutation-sym, Contains-permutation}
use Rattle.std.proofs.lemmas.Nat.{mod_below}
use Rattle.std.proofs.lemmas.Simd.{map-map}
use Rattle.gl_edges.specs.Edges.{once}
use Rattle.gl_edges.specs.Laws.{AreAmong}
use Rattle.gl_edges.specs.declared.edge.Edge.{Edge}
use Rattle.gl_edges.specs.declared.edge.Sample.{Sample}
use Rattle.gl_edges.proofs.Least.{same_once}
use Rattle.gl_edges.proofs.Membership.{contains_here, contains_later, contains_cases, contains_none, contains_map, contains_map_from, contains_flat_map, contains_flat_map_from, contains_range}
use Rattle.gl_shards.specs.Shards.{shard_of}
use Rattle.gl_shards.specs.Tables.{all_pairs, filled, of_shard, union}
use Rattle.gl_edges.proofs.Filling.{once_of_none, once_again, once_before, once_behind, once_moved}

-- pairs that are inserted one after the other, into a table that has each edge once
filled_from : (table pairs : List (Edge × Sample)) → once table ≡ table → filled table pairs ≡ once (table ++ pairs)
filled_from table [] own = sym own ∙ ap once (sym (append-nil table))
filled_from table (pair ∷ pairs) own = filled_from (once (table ++ pair ∷ [])) pairs (once_again (table ++ pair ∷ [])) ∙ once_moved table pair pairs

-- and into an empty one
pub filled_is_once : (pairs : List (Edge × Sample)) → filled [] pairs ≡ once pairs
filled_is_once pairs = filled_from [] pairs once_of_none

-- ---- tables in another order

-- pairs in another order
pub once_permuted : (xs ys : List (Edge × Sample)) → IsPermutation xs ys → once xs ≡ once ys
once_permuted xs ys same =
    same_once xs ys (λ pair at. Contains-permutation xs ys pair same at) (λ pair at. Contains-permutation ys xs pair (IsPermutation-sym xs ys same) at)

-- the pairs of tables in another order
all_among : (xs ys : List (List (Edge × Sample))) → IsPermutation xs ys → AreAmong (all_pairs xs) (all_pairs ys)
all_among xs ys same pair at =
    let (table, there, has) = contains_flat_map_from (λ table. table) pair xs at in
    contains_flat_map (λ table. table) table pair ys (Contains-permutation xs ys table same there) has

-- tables in another order
pub union_permuted : (xs ys : List (List (Edge × Sample))) → IsPermutation xs ys → union xs ≡ union ys
union_permuted xs ys same = same_once (all_pairs xs) (all_pairs ys) (all_among xs ys same) (all_among ys xs (IsPermutation-sym xs ys same))

-- tables that have each edge once already
pub union_of_once : (lists : List (List (Edge × Sample))) → union (map once lists) ≡ once (all_pairs lists)
union_of_once [] = refl
union_of_once (pairs ∷ lists) =
    once_before pairs (all_pairs (map once lists))
    ∙ sym (once_behind pairs (all_pairs (map once lists)))
    ∙ ap (λ rest. once (pairs ++ rest)) (union_of_once lists)
    ∙ once_behind pairs (all_pairs lists)

-- ---- shards

-- an element that passes the test is kept
filter_has : {X : Type 0} (p : X → Bool) (x : X) (xs : List X) → Contains xs x → p x ≡ true → Contains (filter p xs) x
filter_has p x [] at passes = absurd (contains_none x at)
filter_has p x (y ∷ xs) at passes =
    elim (contains_cases y x xs at) [
      | inl is ↦
          let same : p y ≡ true = ap p is ∙ passes in
          subst (λ b. Contains (cond b (y ∷ filter p xs) (filter p xs)) x) (sym same) (subst (Contains (y ∷ filter p xs)) is (contains_here y (filter p xs)))
      | inr later ↦ kept (p y) (filter_has p x xs later passes)
    ]
  where
    kept : (b : Bool) → Contains (filter p xs) x → Contains (cond b (y ∷ filter p xs) (filter p xs)) x
    kept true there = contains_later y x (filter p xs) there
    kept false there = there

-- what a filter keeps is in the list
filter_from : {X : Type 0} (p : X → Bool) (x : X) (xs : List X) → Contains (filter p xs) x → Contains xs x
filter_from p x [] at = absurd (contains_none x at)
filter_from p x (y ∷ xs) at = by (p y) at (λ there. filter_from p x xs there)
  where
    by : (b : Bool) → Contains (cond b (y ∷ filter p xs) (filter p xs)) x → (Contains (filter p xs) x → Contains xs x) → Contains (y ∷ xs) x
    by true there rest =
        elim (contains_cases y x (filter p xs) there) [
          | inl is ↦ subst (Contains (y ∷ xs)) is (contains_here y xs)
          | inr later ↦ contains_later y x xs (rest later)
        ]
    by false there rest = contains_later y x xs (rest there)

module _ (shards : ℕ) (pairs : List (Edge × Sample)) (some : 1 ≤ shards) where
  -- the pairs of each shard
  abbrev lists : List (List (Edge × Sample))
  lists = map (of_shard shards pairs) (range_with_len 0 shards)

  -- each pair of a shard is one of the pairs
  from_shards : AreAmong (all_pairs lists) pairs
  from_shards pair at =
      let (list, there, has) = contains_flat_map_from (λ list. list) pair lists at in
      let (shard, within, is) = contains_map_from (of_shard shards pairs) list (range_with_len 0 shards) there in
      filter_from (λ pair. eqb (shard_of pair.0 shards) shard) pair pairs (subst (λ xs. Contains xs pair) (sym is) has)

  -- each pair is one of its shard
  to_shards : AreAmong pairs (all_pairs lists)
  to_shards pair at =
      let shard = shard_of pair.0 shards in
      let within : shard < shards = mod_below pair.0.held shards (omega (arith, some)) in
      contains_flat_map (λ list. list) (of_shard shards pairs shard) pair lists
      (contains_map (of_shard shards pairs) shard (range_with_len 0 shards) (contains_range 0 shards shard (omega arith) (omega (arith, within))))
      (filter_has (λ pair. eqb (shard_of pair.0 shards) shard) pair pairs at (eq-eqb shard shard refl))

  -- the tables of all shards make the table of all pairs
  pub shards_whole : union (map (λ shard. once (of_shard shards pairs shard)) (range_with_len 0 shards)) ≡ once pairs
  shards_whole =
      ap union (sym (map-map once (of_shard shards pairs) (range_with_len 0 shards)))
      ∙ union_of_once lists
      ∙ same_once (all_pairs lists) pairs from_shards to_shards
