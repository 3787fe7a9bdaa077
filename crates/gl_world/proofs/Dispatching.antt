-- The steps of a dispatch, case by case.
use Rattle.std.proofs.Common.{◌≡◌, ℕ, ◌+◌, ◌<◌, ◌≤◌, Bool, true, false, cond, List, [], ◌∷◌, ◌++◌, length, map, take, set, get_or, Some, refl, sym, ap, ◌∙◌, arith}
use Rattle.std.specs.Prelude.{slice_get}
use Rattle.std.specs.List.{flat_map}
use Rattle.std.proofs.lemmas.List.{set-get_or, take_more}
use Rattle.std.proofs.lemmas.Option.{slice_get_past, slice_get_read}
use Rattle.gl_event.specs.Bounds.{Bounds}
use Rattle.gl_edges.specs.Edges.{once}
use Rattle.gl_edges.specs.declared.edge.Edge.{Edge}
use Rattle.gl_edges.specs.declared.edge.Sample.{Sample}
use Rattle.gl_shards.specs.Shards.{shard_of}
use Rattle.gl_shards.specs.Tables.{all_pairs, union}
use Rattle.gl_edges.proofs.Filling.{once_of_none, once_before, once_behind}
use Rattle.gl_world.specs.Dispatch.{Shard, Dispatch, Handled, wait, has_place, has_work, ship_edge, work_edge, ship_turn, work_turn}
use Rattle.gl_world.specs.Keeping.{IsTabled}
use Rattle.gl_world.specs.declared.steps.Did.TheVariants.{Nothing, Shipped, Worked}

-- ---- tables

-- the tables of lists of edges, taken together, are the table of all these edges
pub union_is : {X : Type 0} (f : X → List (Edge × Sample)) (xs : List X) → union (map (λ x. once (f x)) xs) ≡ once (flat_map f xs)
union_is f [] = refl
union_is f (x ∷ xs) =
    once_before (f x) (all_pairs (map (λ x. once (f x)) xs))
    ∙ sym (once_behind (f x) (all_pairs (map (λ x. once (f x)) xs)))
    ∙ ap (λ zs. once (f x ++ zs)) (union_is f xs)
    ∙ once_behind (f x) (flat_map f xs)

-- ---- one shard

pub tabled_new : (shipped table : List (Edge × Sample)) → shipped ≡ [] → table ≡ [] → IsTabled shipped 0 table
tabled_new shipped table none empty = record { within = omega arith; table_is = empty ∙ sym once_of_none }

pub tabled_more : (shipped table now : List (Edge × Sample)) (worked : ℕ) (pair : Edge × Sample) → IsTabled shipped worked table → worked < length shipped → pair ≡ get_or shipped worked pair
    → now ≡ once (table ++ pair ∷ []) → IsTabled shipped (worked + 1) now
tabled_more shipped table now worked pair is within here grown = record {
  within = omega arith;
  table_is = grown
      ∙ ap (λ xs. once (xs ++ pair ∷ [])) is.table_is
      ∙ once_before (take worked shipped) (pair ∷ [])
      ∙ ap (λ x. once (take worked shipped ++ x ∷ [])) here
      ∙ ap once (sym (take_more shipped worked pair within));
}

-- ---- shipping

module _ (limits : Bounds) (d : Dispatch) where
  pub ship_none : length d.made ≤ d.sent → ship_turn limits d ≡ wait d
  unfolding ship_turn
  ship_none all = rw (slice_get_past d.made d.sent all)

  module _ (pair : Edge × Sample) (k : ℕ) (shard : Shard) (left : d.sent < length d.made) (next : pair ≡ get_or d.made d.sent pair) (its_shard : k ≡ shard_of pair.0 (length d.shards))
      (known : k < length d.shards) (here : shard ≡ get_or d.shards k shard) where
    pair_at : slice_get d.made d.sent ≡ Some pair
    pair_at = slice_get_read d.made (length d.made) d.sent pair refl left next

    shard_at : slice_get d.shards (shard_of pair.0 (length d.shards)) ≡ Some shard
    shard_at = ap (slice_get d.shards) (sym its_shard) ∙ slice_get_read d.shards (length d.shards) k shard refl known here

    pub ship_full : has_place limits shard ≡ false → (let h : Handled = record { dispatch = record { made = d.made; sent = d.sent; shards = set d.shards k shard }; did = Nothing } in h ≡ ship_turn limits d)
    unfolding ship_turn
    ship_full full =
        let same : set d.shards k shard ≡ d.shards = ap (set d.shards k) here ∙ set-get_or d.shards k shard in
        rw (pair_at, shard_at, full, same)

    pub ship_next : has_place limits shard ≡ true → (now : Shard) → now ≡ ship_edge shard pair
        → (let h : Handled = record { dispatch = record { made = d.made; sent = d.sent + 1; shards = set d.shards k now }; did = Shipped k } in h ≡ ship_turn limits d)
    unfolding ship_turn
    ship_next free now is = rw (pair_at, shard_at, free, is, its_shard)

-- ---- working

module _ (d : Dispatch) (k : ℕ) where
  pub work_unknown : length d.shards ≤ k → work_turn d k ≡ wait d
  unfolding work_turn
  work_unknown strange = rw (slice_get_past d.shards k strange)

  module _ (shard : Shard) (known : k < length d.shards) (here : shard ≡ get_or d.shards k shard) where
    shard_there : slice_get d.shards k ≡ Some shard
    shard_there = slice_get_read d.shards (length d.shards) k shard refl known here

    -- what the worker answers, by whether the shard had an edge left
    pub work_is : (had : Bool) → had ≡ has_work shard → (now : Shard) → now ≡ cond (has_work shard) (work_edge shard) shard
        → (let h : Handled = record { dispatch = record { made = d.made; sent = d.sent; shards = set d.shards k now }; did = cond had Worked Nothing } in h ≡ work_turn d k)
    unfolding work_turn
    work_is true had now is =
        let now_is : now ≡ work_edge shard = is ∙ ap (λ b. cond b (work_edge shard) shard) (sym had) in
        rw (shard_there, ← had, now_is)
    work_is false had now is =
        let now_is : now ≡ get_or d.shards k shard = is ∙ ap (λ b. cond b (work_edge shard) shard) (sym had) ∙ here in
        rw (shard_there, ← had, now_is, set-get_or d.shards k shard)
