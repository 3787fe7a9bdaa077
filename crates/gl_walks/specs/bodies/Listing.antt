-- Where the positions with a key stand.
use Rattle.std.specs.Prelude.{◌≡◌, ◌≢◌, ℕ, ◌+◌, ◌<◌, ◌≤◌, Bool, true, ◌&&◌, List, length, Option, Some, None, nat_eq, slice_get, unwrap_or}
use Rattle.std.specs.HashMap.{get}
use Rattle.std.specs.Option.{option_eq}
use Rattle.gl_edges.specs.declared.edge.Edge.{Edge}
use Rattle.gl_walks.specs.declared.chains.Chain.{Chain}
use Rattle.gl_walks.specs.declared.keys.Keyed.{Keyed}
use Rattle.gl_walks.specs.declared.keys.Keyed.TheVariants.{ByClass, ByLock}

-- the answer is the first position from n on that has the key, of those below size
pub record IsNext {K : Type 0} (key : ℕ → Option K) (size : ℕ) (k : K) (n : ℕ)
    (next : Option ℕ) : Type 0 where
  pub from : n ≤ unwrap_or next size
  pub within : unwrap_or next size ≤ size
  -- it has the key
  pub has : (i : ℕ) → next ≡ Some i → (i < size) × (key i ≡ Some k)
  -- those before it don't
  pub skipped : (i : ℕ) → n ≤ i → i < unwrap_or next size → key i ≢ Some k

-- the positions from n on are listed by their keys: where each key stands first, and for each position that has a key where it stands next
pub record AreListed {K : Type 0} (key : ℕ → Option K) (size n : ℕ) (first : K → Option ℕ)
    (next : List (Option ℕ)) : Type 0 where
  pub long : length next ≡ size
  pub begins : (k : K) → IsNext key size k n (first k)
  pub goes_on : (i : ℕ) (k : K) (after : Option ℕ) → n ≤ i → key i ≡ Some k
      → slice_get next i ≡ Some after → IsNext key size k (i + 1) after

-- a class, and a lock where it matters
abbrev pub Key : Type 0
Key = ℕ × Option ℕ

-- the same key
abbrev pub same_key : Key → Key → Bool
same_key a b = nat_eq a.0 b.0 && option_eq nat_eq a.1 b.1

-- where a key stands first
abbrev pub first_in : Chain → Key → Option ℕ
first_in chain k = get same_key chain.first k

-- the positions from n on are in the chain by these keys
abbrev pub IsChain : (ℕ → Option Key) → ℕ → ℕ → Chain → Type 0
IsChain key size n chain = AreListed key size n (first_in chain) chain.next.items

-- the lock of an edge's key
abbrev pub lock_in_key : Keyed → Edge → Option ℕ
lock_in_key ByClass e = None
lock_in_key ByLock e = Some e.held

-- the key of an edge of this class, where it is flagged
abbrev pub key_of : Keyed → Option Edge → Option ℕ → Option Bool → Option Key
key_of keyed (Some e) (Some class) (Some true) = Some (class, lock_in_key keyed e)
key_of keyed _ _ _ = None

-- the key of the edge at a position
unfoldable pub key_at : Keyed → List Edge → List ℕ → List Bool → ℕ → Option Key
key_at keyed edges classes flags i =
    key_of keyed (slice_get edges i) (slice_get classes i) (slice_get flags i)
