-- What was shipped are the first of the edges made, to each shard its own.
use Rattle.std.proofs.Common.{◌≡◌, ◌≢◌, ℕ, zero, suc, ◌+◌, ◌<◌, ◌≤◌, Bool, true, false, cond, eqb, List, [], ◌∷◌, ◌++◌, length, map, take, set, replicate, Option, Some, None, refl, sym, ap, ◌∙◌, subst, arith, inl, inr}
use Rattle.std.specs.Prelude.{slice_get}
use Rattle.std.specs.List.{range_with_len}
use Rattle.std.specs.Option.{option_map_or}
use Rattle.std.proofs.lemmas.Bool.{cases_eq, cases_lt, eq-eqb, ne_eqb}
use Rattle.std.proofs.lemmas.List.{take-append-le, length-append, append-nil, take_all, length-set}
use Rattle.std.proofs.lemmas.List.Elements.{filter-append}
use Rattle.std.proofs.lemmas.Option.{slice_get_within}
use Rattle.gl_event.specs.Bounds.{Bounds}
use Rattle.gl_edges.specs.Edges.{once}
use Rattle.gl_edges.specs.declared.edge.Edge.{Edge}
use Rattle.gl_edges.specs.declared.edge.Sample.{Sample}
use Rattle.gl_shards.specs.Shards.{shard_of}
use Rattle.gl_shards.specs.Tables.{of_shard, union}
use Rattle.gl_shards.proofs.Uniting.{shards_whole}
use Rattle.gl_world.specs.Dispatch.{Shard, Dispatch, Handled, wait, fresh_shard, fresh_dispatch, worked_edges, table_of, all_worked, has_place, has_work, ship_edge, work_edge, ship_to, ship_pair, work_on, ship_turn, work_turn, IsDone}
use Rattle.gl_world.specs.Machine.{add_edges}
use Rattle.gl_world.specs.Keeping.{AreShipped}
use Rattle.gl_world.specs.declared.steps.Did.TheVariants.{Shipped, Worked}
use Rattle.gl_world.proofs.Lists.{same_some, take_more, get_set_same, get_set_other}
use Rattle.gl_world.proofs.Dispatching.{union_is}

-- ---- the edges of one shard

-- an edge more goes to its shard
own_more : (shards : ℕ) (pairs : List (Edge × Sample)) (pair : Edge × Sample) (k : ℕ) → shard_of pair.0 shards ≡ k → of_shard shards (pairs ++ pair ∷ []) k ≡ of_shard shards pairs k ++ pair ∷ []
own_more shards pairs pair k is =
    filter-append (λ (p : Edge × Sample). eqb (shard_of p.0 shards) k) pairs (pair ∷ [])
    ∙ ap (λ b. of_shard shards pairs k ++ cond b (pair ∷ []) []) (eq-eqb (shard_of pair.0 shards) k is)

-- and to no other
other_more : (shards : ℕ) (pairs : List (Edge × Sample)) (pair : Edge × Sample) (k : ℕ) → shard_of pair.0 shards ≢ k → of_shard shards (pairs ++ pair ∷ []) k ≡ of_shard shards pairs k
other_more shards pairs pair k apart =
    filter-append (λ (p : Edge × Sample). eqb (shard_of p.0 shards) k) pairs (pair ∷ [])
    ∙ ap (λ b. of_shard shards pairs k ++ cond b (pair ∷ []) []) (ne_eqb (shard_of pair.0 shards) k apart)
    ∙ append-nil (of_shard shards pairs k)

-- the one shard that was set
set_at : (shards : List Shard) (k : ℕ) (now : Shard) (t : ℕ) (other : Shard) → k < length shards → k ≡ t → slice_get (set shards k now) t ≡ Some other → other ≡ now
set_at shards k now t other within same at = same_some other now (sym at ∙ ap (slice_get (set shards k now)) (sym same) ∙ get_set_same shards k now within)

-- ---- the steps

-- edges made later aren't among the first
pub shipped_added : (d : Dispatch) (due : List (Edge × Sample)) → AreShipped d → AreShipped (add_edges d due)
shipped_added d due are = record {
  within = (let w = are.within in omega (arith, length-append d.made due));
  some = are.some;
  each = λ k shard at. are.each k shard at ∙ ap (λ pairs. of_shard (length d.shards) pairs k) (sym (take-append-le d.sent d.made due are.within));
}

shipped_next : (d : Dispatch) (pair : Edge × Sample) (shard : Shard) → slice_get d.made d.sent ≡ Some pair → slice_get d.shards (shard_of pair.0 (length d.shards)) ≡ Some shard → AreShipped d
    → AreShipped (record d { sent = d.sent + 1; shards = set d.shards (shard_of pair.0 (length d.shards)) (ship_edge shard pair) })
shipped_next d pair shard next here are =
    let k = shard_of pair.0 (length d.shards) in
    let more : take (d.sent + 1) d.made ≡ take d.sent d.made ++ pair ∷ [] = take_more d.made d.sent pair next in
    let within : k < length d.shards = slice_get_within d.shards k shard here in
    let count : length (set d.shards k (ship_edge shard pair)) ≡ length d.shards = length-set d.shards k (ship_edge shard pair) in
    record {
      within = (let w = slice_get_within d.made d.sent pair next in omega arith);
      some = λ any. omega (arith, within, count);
      each = λ t other at.
          rw (count, more)
          (elim (cases_eq k t) [
            | inl same ↦
                ap (λ (x : Shard). x.shipped) (set_at d.shards k (ship_edge shard pair) t other within same at)
                ∙ ap (λ xs. xs ++ pair ∷ []) (are.each k shard here)
                ∙ ap (λ i. of_shard (length d.shards) (take d.sent d.made) i ++ pair ∷ []) same
                ∙ sym (own_more (length d.shards) (take d.sent d.made) pair t same)
            | inr apart ↦
                are.each t other (sym (get_set_other d.shards k t (ship_edge shard pair) apart) ∙ at)
                ∙ sym (other_more (length d.shards) (take d.sent d.made) pair t apart)
          ]);
    }

module _ (limits : Bounds) (d : Dispatch) (are : AreShipped d) where
  to_shard : (pair : Edge × Sample) → slice_get d.made d.sent ≡ Some pair → (shard : Shard) → slice_get d.shards (shard_of pair.0 (length d.shards)) ≡ Some shard → (b : Bool)
      → AreShipped (cond b (let h : Handled = record { dispatch = record d { sent = d.sent + 1; shards = set d.shards (shard_of pair.0 (length d.shards)) (ship_edge shard pair) }; did = Shipped (shard_of pair.0 (length d.shards)) } in h) (wait d)).dispatch
  to_shard pair next shard here true = shipped_next d pair shard next here are
  to_shard pair next shard here false = are

  of_pair : (pair : Edge × Sample) → slice_get d.made d.sent ≡ Some pair → (found : Option Shard) → slice_get d.shards (shard_of pair.0 (length d.shards)) ≡ found
      → AreShipped (option_map_or (ship_to limits d pair (shard_of pair.0 (length d.shards))) found (wait d)).dispatch
  of_pair pair next None here = are
  of_pair pair next (Some shard) here = to_shard pair next shard here (has_place limits shard)

  of_next : (next : Option (Edge × Sample)) → slice_get d.made d.sent ≡ next → AreShipped (option_map_or (ship_pair limits d) next (wait d)).dispatch
  of_next None at = are
  of_next (Some pair) at = of_pair pair at (slice_get d.shards (shard_of pair.0 (length d.shards))) refl

  pub shipped_turn : AreShipped (ship_turn limits d).dispatch
  unfolding ship_turn
  shipped_turn = of_next (slice_get d.made d.sent) refl

module _ (d : Dispatch) (are : AreShipped d) (k : ℕ) where
  -- an edge that is worked stays shipped
  by_worker : (shard : Shard) → slice_get d.shards k ≡ Some shard → (b : Bool)
      → AreShipped (cond b (let h : Handled = record { dispatch = record d { shards = set d.shards k (work_edge shard) }; did = Worked } in h) (wait d)).dispatch
  by_worker shard here true =
      let within : k < length d.shards = slice_get_within d.shards k shard here in
      let count : length (set d.shards k (work_edge shard)) ≡ length d.shards = length-set d.shards k (work_edge shard) in
      record {
        within = are.within;
        some = λ any. omega (arith, within, count);
        each = λ t other at.
            rw count
            (elim (cases_eq k t) [
              | inl same ↦
                  ap (λ (x : Shard). x.shipped) (set_at d.shards k (work_edge shard) t other within same at)
                  ∙ are.each k shard here
                  ∙ ap (of_shard (length d.shards) (take d.sent d.made)) same
              | inr apart ↦ are.each t other (sym (get_set_other d.shards k t (work_edge shard) apart) ∙ at)
            ]);
      }
  by_worker shard here false = are

  of_shards : (found : Option Shard) → slice_get d.shards k ≡ found → AreShipped (option_map_or (work_on d k) found (wait d)).dispatch
  of_shards None here = are
  of_shards (Some shard) here = by_worker shard here (has_work shard)

  pub worked_turn : AreShipped (work_turn d k).dispatch
  unfolding work_turn
  worked_turn = of_shards (slice_get d.shards k) refl

-- neither makes an edge
module _ (limits : Bounds) (d : Dispatch) where
  made_to : (pair : Edge × Sample) (k : ℕ) (shard : Shard) (b : Bool)
      → (cond b (let h : Handled = record { dispatch = record d { sent = d.sent + 1; shards = set d.shards k (ship_edge shard pair) }; did = Shipped k } in h) (wait d)).dispatch.made ≡ d.made
  made_to pair k shard true = refl
  made_to pair k shard false = refl

  made_of_pair : (pair : Edge × Sample) (k : ℕ) (found : Option Shard) → (option_map_or (ship_to limits d pair k) found (wait d)).dispatch.made ≡ d.made
  made_of_pair pair k None = refl
  made_of_pair pair k (Some shard) = made_to pair k shard (has_place limits shard)

  made_of_next : (next : Option (Edge × Sample)) → (option_map_or (ship_pair limits d) next (wait d)).dispatch.made ≡ d.made
  made_of_next None = refl
  made_of_next (Some pair) = made_of_pair pair (shard_of pair.0 (length d.shards)) (slice_get d.shards (shard_of pair.0 (length d.shards)))

  pub ship_makes_none : (ship_turn limits d).dispatch.made ≡ d.made
  unfolding ship_turn
  ship_makes_none = made_of_next (slice_get d.made d.sent)

module _ (d : Dispatch) (k : ℕ) where
  made_by_worker : (shard : Shard) (b : Bool)
      → (cond b (let h : Handled = record { dispatch = record d { shards = set d.shards k (work_edge shard) }; did = Worked } in h) (wait d)).dispatch.made ≡ d.made
  made_by_worker shard true = refl
  made_by_worker shard false = refl

  made_of_shard : (found : Option Shard) → (option_map_or (work_on d k) found (wait d)).dispatch.made ≡ d.made
  made_of_shard None = refl
  made_of_shard (Some shard) = made_by_worker shard (has_work shard)

  pub work_makes_none : (work_turn d k).dispatch.made ≡ d.made
  unfolding work_turn
  work_makes_none = made_of_shard (slice_get d.shards k)

-- nor does the number of shards change
module _ (limits : Bounds) (d : Dispatch) where
  count_to : (pair : Edge × Sample) (k : ℕ) (shard : Shard) (b : Bool)
      → length (cond b (let h : Handled = record { dispatch = record d { sent = d.sent + 1; shards = set d.shards k (ship_edge shard pair) }; did = Shipped k } in h) (wait d)).dispatch.shards ≡ length d.shards
  count_to pair k shard true = length-set d.shards k (ship_edge shard pair)
  count_to pair k shard false = refl

  count_of_pair : (pair : Edge × Sample) (k : ℕ) (found : Option Shard) → length (option_map_or (ship_to limits d pair k) found (wait d)).dispatch.shards ≡ length d.shards
  count_of_pair pair k None = refl
  count_of_pair pair k (Some shard) = count_to pair k shard (has_place limits shard)

  count_of_next : (next : Option (Edge × Sample)) → length (option_map_or (ship_pair limits d) next (wait d)).dispatch.shards ≡ length d.shards
  count_of_next None = refl
  count_of_next (Some pair) = count_of_pair pair (shard_of pair.0 (length d.shards)) (slice_get d.shards (shard_of pair.0 (length d.shards)))

  pub ship_keeps_shards : length (ship_turn limits d).dispatch.shards ≡ length d.shards
  unfolding ship_turn
  ship_keeps_shards = count_of_next (slice_get d.made d.sent)

module _ (d : Dispatch) (k : ℕ) where
  count_by_worker : (shard : Shard) (b : Bool)
      → length (cond b (let h : Handled = record { dispatch = record d { shards = set d.shards k (work_edge shard) }; did = Worked } in h) (wait d)).dispatch.shards ≡ length d.shards
  count_by_worker shard true = length-set d.shards k (work_edge shard)
  count_by_worker shard false = refl

  count_of_shard : (found : Option Shard) → length (option_map_or (work_on d k) found (wait d)).dispatch.shards ≡ length d.shards
  count_of_shard None = refl
  count_of_shard (Some shard) = count_by_worker shard (has_work shard)

  pub work_keeps_shards : length (work_turn d k).dispatch.shards ≡ length d.shards
  unfolding work_turn
  work_keeps_shards = count_of_shard (slice_get d.shards k)

-- nothing is shipped to fresh shards
pub shipped_nothing : (shards : ℕ) → AreShipped (fresh_dispatch shards)
shipped_nothing shards = record {
  within = omega arith;
  some = λ any. absurd (omega arith);
  each = λ k shard at. ap (λ (x : Shard). x.shipped) (fresh_one shards k shard at);
}
  where
    fresh_one : (n k : ℕ) (shard : Shard) → slice_get (replicate n fresh_shard) k ≡ Some shard → shard ≡ fresh_shard
    fresh_one zero k shard at = absurd (cc)
    fresh_one (suc n) zero shard at = sym (same_some fresh_shard shard at)
    fresh_one (suc n) (suc k) shard at = fresh_one n k shard at

-- ---- where all is done

-- two ways to list what belongs to each place of a list
each_alike : {X Y : Type 0} (f : ℕ → Y) (g : X → Y) (n : ℕ) (xs : List X) → ((i : ℕ) (x : X) → slice_get xs i ≡ Some x → f (n + i) ≡ g x) → map f (range_with_len n (length xs)) ≡ map g xs
each_alike f g n [] each = refl
each_alike f g n (x ∷ xs) each =
    let here : n + 0 ≡ n = omega arith in
    let first : f n ≡ g x = subst (λ k. f k ≡ g x) here (each 0 x refl) in
    let rest = each_alike f g (n + 1) xs (λ i z at. (let later : n + suc i ≡ (n + 1) + i = omega arith in subst (λ k. f k ≡ g z) later (each (suc i) z at))) in
    (λ i. first i ∷ rest i)

no_shards : (shards : List Shard) → length shards ≤ 0 → all_worked shards ≡ []
no_shards [] none = refl
no_shards (s ∷ shards) none = absurd (omega arith)

none_made : (pairs : List (Edge × Sample)) → length pairs ≤ 0 → pairs ≡ []
none_made [] none = refl
none_made (p ∷ pairs) none = absurd (omega arith)

-- the tables of what was worked make the table of what was made
pub worked_is_made : (d : Dispatch) → AreShipped d → IsDone d → once (all_worked d.shards) ≡ once d.made
worked_is_made d are done =
    elim (cases_lt 0 (length d.shards)) [
      | inl some ↦
          sym (union_is worked_edges d.shards)
          ∙ ap union (sym (each_alike (λ k. once (of_shard (length d.shards) d.made k)) table_of 0 d.shards table_at))
          ∙ shards_whole (length d.shards) d.made (omega arith)
      | inr none ↦
          let unsent : length d.made ≤ 0 = elim (cases_lt 0 d.sent) [ inl any ↦ (let one = are.some (omega arith) in absurd (omega arith)) | inr not ↦ (let all = done.all_sent in omega arith) ] in
          ap once (no_shards d.shards (omega arith) ∙ sym (none_made d.made unsent))
    ]
  where
    sent_all : take d.sent d.made ≡ d.made
    sent_all = let all = done.all_sent in take_all d.sent d.made (omega arith)

    table_at : (k : ℕ) (shard : Shard) → slice_get d.shards k ≡ Some shard → once (of_shard (length d.shards) d.made (0 + k)) ≡ table_of shard
    table_at k shard at =
        let number : 0 + k ≡ k = omega arith in
        let all = done.all_worked k shard at in
        let worked : worked_edges shard ≡ shard.shipped = take_all shard.worked shard.shipped (omega arith) in
        ap (λ i. once (of_shard (length d.shards) d.made i)) number
        ∙ ap (λ pairs. once (of_shard (length d.shards) pairs k)) (sym sent_all)
        ∙ ap once (sym (are.each k shard at) ∙ sym worked)
