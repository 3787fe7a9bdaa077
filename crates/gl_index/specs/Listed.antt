-- Positions of edges that are listed by a key.
use Rattle.std.specs.Prelude.{◌≡◌, ◌≢◌, ℕ, ◌+◌, ◌<◌, ◌≤◌, ◌⊎◌, Bool, false, List, length, Option, Some, IfSome, slice_get, unwrap_or}
use Rattle.gl_edges.specs.declared.edge.Edge.{Edge}

-- the answer is the next position from n on of an edge with this key that isn't left out, or none where there is none
pub record IsNextWith {K : Type 0} (key : Edge → K) (edges : List Edge) (kept : List Bool) (k : K)
    (n : ℕ) (next : Option ℕ) : Type 0 where
  -- it is n or later
  pub from : n ≤ unwrap_or next (length edges)
  pub within : unwrap_or next (length edges) ≤ length edges
  -- the edge there has the key
  pub holds : IfSome next
      (λ i. (i < length edges) × ((e : Edge) → slice_get edges i ≡ Some e → key e ≡ k))
  -- and isn't left out
  pub chosen : IfSome next (λ i. ¬ (slice_get kept i ≡ Some false))
  -- the edges before it don't, or are left out
  pub skipped : (i : ℕ) (e : Edge) → n ≤ i → i < unwrap_or next (length edges)
      → slice_get edges i ≡ Some e → (key e ≢ k) ⊎ (slice_get kept i ≡ Some false)

-- the edges from position n on are listed by their keys: where each key stands first, and for each position where its edge's key stands next
pub record AreListed {K : Type 0} (key : Edge → K) (edges : List Edge) (kept : List Bool) (n : ℕ)
    (first : K → Option ℕ) (next : List (Option ℕ)) : Type 0 where
  pub long : length next ≡ length edges
  pub begins : (k : K) → IsNextWith key edges kept k n (first k)
  pub goes_on : (i : ℕ) (e : Edge) (after : Option ℕ) → n ≤ i → slice_get edges i ≡ Some e
      → slice_get next i ≡ Some after → IsNextWith key edges kept (key e) (i + 1) after
