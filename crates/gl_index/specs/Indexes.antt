-- Indexes of edges: where the edges with a lock stand, or with two.
use Rattle.std.specs.Prelude.{◌≡◌, ℕ, ◌+◌, Bool, ◌&&◌, List, [], length, Option, Some, nat_eq, slice_get}
use Rattle.std.specs.HashMap.{get}
use Rattle.gl_edges.specs.declared.edge.Edge.{Edge}
use Rattle.gl_index.specs.ByLock.{value_at}
use Rattle.gl_index.specs.Listed.{IsNextWith, AreListed}
use Rattle.gl_index.specs.Sides.{lock_towards}
use Rattle.gl_index.specs.declared.chains.Chain.{Chain}
use Rattle.gl_index.specs.declared.closers.Closers.{Closers}
use Rattle.gl_index.specs.declared.followers.Followers.{Followers}
use Rattle.gl_index.specs.declared.sides.Side.{Side}

-- where a lock stands first
abbrev pub first_in_chain : Chain → ℕ → Option ℕ
first_in_chain chain lock = value_at chain.first lock

-- the edges from position n on that are kept are in the index by their locks on this side
abbrev pub AreChainedKept : Side → List Edge → List Bool → ℕ → Chain → Type 0
AreChainedKept side edges kept n chain =
    AreListed (lock_towards side) edges kept n (first_in_chain chain) chain.next.items

-- all edges from position n on are, where no flag leaves any out
abbrev pub AreChained : Side → List Edge → ℕ → Chain → Type 0
AreChained side edges n chain = AreChainedKept side edges [] n chain

-- the lock that an edge holds
abbrev pub held_lock : Edge → ℕ
held_lock e = e.held

-- the locks that an edge holds and wants
abbrev pub both_locks : Edge → ℕ × ℕ
both_locks e = (e.held, e.wanted)

-- the same two locks
abbrev pub same_locks : ℕ × ℕ → ℕ × ℕ → Bool
same_locks a b = nat_eq a.0 b.0 && nat_eq a.1 b.1

-- where two locks stand first
abbrev pub first_of_locks : Closers → ℕ × ℕ → Option ℕ
first_of_locks closers locks = get same_locks closers.first locks

-- the edges from position n on are in the index by the locks that they hold and want
abbrev pub AreClosers : List Edge → List Bool → ℕ → Closers → Type 0
AreClosers edges kept n closers =
    AreListed both_locks edges kept n (first_of_locks closers) closers.next.items

-- the index leads through the followers of each edge that are kept
pub record IsIndexOf (edges : List Edge) (kept : List Bool) (index : Followers) : Type 0 where
  pub long : length index.first.items ≡ length edges
  pub as_long : length index.next.items ≡ length edges
  -- the first edge that holds the lock which an edge wants
  pub begins : (i : ℕ) (e : Edge) (first : Option ℕ) → slice_get edges i ≡ Some e
      → slice_get index.first.items i ≡ Some first
      → IsNextWith held_lock edges kept e.wanted 0 first
  -- the next one that holds the same lock
  pub goes_on : (i : ℕ) (e : Edge) (next : Option ℕ) → slice_get edges i ≡ Some e
      → slice_get index.next.items i ≡ Some next
      → IsNextWith held_lock edges kept e.held (i + 1) next
  -- and those that close a path
  pub closers : AreClosers edges kept 0 index.closers
