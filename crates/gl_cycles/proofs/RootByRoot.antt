-- A search that goes on root by root.
use Rattle.std.proofs.Common.{◌≡◌, ℕ, suc, ◌+◌, ◌-◌, ◌<◌, ◌≤◌, List, [], ◌∷◌, ◌++◌, length, take, sym, ap, ◌∙◌, arith}
use Rattle.std.proofs.lemmas.List.{length-map, take_all}
use Rattle.gl_segments.specs.Clocks.{is_before}
use Rattle.gl_filters.specs.Picked.{edges_of_table}
use Rattle.gl_cycles.specs.AllCycles.{all_cycles}
use Rattle.gl_cycles.specs.bodies.Blocks.{block, blocks_below}
use Rattle.gl_cycles.specs.bodies.Searching.{HasFound}
use Rattle.gl_sought.specs.declared.sought.Sought.{Sought}
use Rattle.gl_cycles.proofs.PathsGrow.{all_from_roots, grow_full, roots_more, length-first}
use Rattle.gl_cycles.proofs.RootsJoined.{take_append-take}

module _ (s : Sought) (cap : ℕ) where
  -- before the first root
  pub none_found : HasFound s cap 0 []
  none_found = record { within = omega arith; first = sym (take_all cap [] (omega arith)) }

  -- no more than the cap
  pub found_room : (root : ℕ) (found : List (List ℕ)) → HasFound s cap root found → length found ≤ cap
  found_room root found had =
      let first = length-first cap (blocks_below (is_before s.order.now) s.mode (edges_of_table s.table.now) (s.len - 1) [] root) in
      omega (arith, ap length had.first)

  -- one root more
  pub found_more : (root : ℕ) (now more : List (List ℕ)) → HasFound s cap root now → root < length s.table.now
      → more ≡ take cap (now ++ block (is_before s.order.now) s.mode (edges_of_table s.table.now) (s.len - 1) (root ∷ [])) → HasFound s cap (root + 1) more
  found_more root now more had there grown =
      record {
        within = omega (arith, there);
        first = roots_more (is_before s.order.now) s.mode (edges_of_table s.table.now) (s.len - 1) cap root now more had.first grown;
      }

  -- of whose cycles the first are known
  pub found_joined : (root : ℕ) (now piece more : List (List ℕ)) → HasFound s cap root now → root < length s.table.now
      → piece ≡ take cap (block (is_before s.order.now) s.mode (edges_of_table s.table.now) (s.len - 1) (root ∷ [])) → more ≡ take cap (now ++ piece) → HasFound s cap (root + 1) more
  found_joined root now piece more had there is joined =
      let all = block (is_before s.order.now) s.mode (edges_of_table s.table.now) (s.len - 1) (root ∷ []) in
      found_more root now more had there (joined ∙ ap (λ l. take cap (now ++ l)) is ∙ sym (take_append-take cap cap now all (omega arith)))

  -- where there are as many as the cap, a root adds none
  pub found_full : (root : ℕ) (now : List (List ℕ)) → HasFound s cap root now → root < length s.table.now → cap ≤ length now → HasFound s cap (root + 1) now
  found_full root now had there full =
      found_more root now now had there
      (grow_full (is_before s.order.now) s.mode (edges_of_table s.table.now) (root ∷ []) cap now (s.len - 1) (found_room root now had) full)

  -- behind the last root
  pub all_found : (root : ℕ) (found : List (List ℕ)) → 0 < s.len → length s.table.now ≤ root → HasFound s cap root found
      → found ≡ take cap (all_cycles (is_before s.order.now) s.mode s.len (edges_of_table s.table.now))
  all_found root found some past had =
      let before = is_before s.order.now in
      let edges = edges_of_table s.table.now in
      let len : suc (s.len - 1) ≡ s.len = omega (arith, some) in
      let within = had.within in
      let end : root ≡ length edges = omega (arith, within, past, length-map s.table.now (λ pair. pair.0)) in
      had.first ∙ ap (λ n. take cap (blocks_below before s.mode edges (s.len - 1) [] n)) end
      ∙ ap (take cap) (sym (all_from_roots before s.mode edges (s.len - 1)))
      ∙ ap (λ n. take cap (all_cycles before s.mode n edges)) len
