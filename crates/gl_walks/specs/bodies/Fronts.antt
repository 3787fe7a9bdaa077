-- Fronts of walks: what a search knows of the positions that it has so far.
use Rattle.std.specs.Prelude.{◌≡◌, ℕ, ◌<◌, ◌≤◌, Bool, true, ◌&&◌, List, [], ◌∷◌, ◌++◌, length, map, take, slice_get, Option, Some, None, All, IsTrue, nat_le, unwrap_or}
use Rattle.std.specs.List.{list_all}
use Rattle.std.specs.Cmp.Lexicographic.{slice_cmp}
use Rattle.std.specs.Ordering.{nat_cmp, is_le}
use Rattle.gl_event.specs.declared.events.Segment.{Segment}
use Rattle.gl_edges.specs.declared.edge.Edge.{Edge}
use Rattle.gl_segments.specs.Clocks.{is_before}
use Rattle.gl_filters.specs.declared.query.Mode.{Mode}
use Rattle.gl_filters.specs.Picked.{picked, edges_of_table}
use Rattle.gl_filters.specs.Test.{leads_to, leads_back, last_of, goes_with, kinds_go_together, is_path}
use Rattle.gl_walks.specs.declared.chains.Chain.{Chain}
use Rattle.gl_walks.specs.declared.keys.Keyed.{Keyed}
use Rattle.gl_walks.specs.declared.keys.Keyed.TheVariants.{ByClass, ByLock}
use Rattle.gl_walks.specs.declared.purpose.Purpose.{Purpose}
use Rattle.gl_walks.specs.declared.purpose.Purpose.TheVariants.{Cycle, Front, Round, Turned}
use Rattle.gl_walks.specs.declared.ground.Ground.{Ground}
use Rattle.gl_walks.specs.Walks.{is_front, is_chain, IsWalk, HasWalkFrom}
use Rattle.gl_walks.specs.bodies.Listing.{Key, key_at, IsChain}

-- the two edges may stand in one walk
abbrev pub goes_by : Purpose → (Segment → Segment → Bool) → Mode → Edge → Edge → Bool
goes_by Cycle before mode e f = goes_with before mode e f
goes_by Front before mode e f = kinds_go_together mode e f
goes_by Round before mode e f = kinds_go_together mode e f
goes_by Turned before mode e f = goes_with before mode e f

-- the second edge may stand in a walk that begins with the first
abbrev pub stays_above : Purpose → Edge → Edge → Bool
stays_above Cycle e f = nat_le e.thread f.thread
stays_above Front e f = true
stays_above Round e f = true
stays_above Turned e f = true

-- the edge may come next in a walk
abbrev pub may_follow : Purpose → (Segment → Segment → Bool) → Mode → List Edge → Edge → Bool
may_follow purpose before mode [] f = true
may_follow purpose before mode (e ∷ es) f =
    leads_to (last_of e es) f
    && (list_all (λ d. goes_by purpose before mode d f) (e ∷ es) && stays_above purpose e f)

-- a walk may begin with these edges, as far as they alone tell
abbrev pub passes : Purpose → (Segment → Segment → Bool) → Mode → List Edge → Bool
passes Cycle before mode es = is_path before mode es
passes Front before mode es = is_front mode es
passes Round before mode es = is_front mode es
passes Turned before mode es = is_chain before mode es

-- they may be all of it
abbrev pub may_end : Purpose → List Edge → Bool
may_end Cycle es = nat_le 2 (length es) && leads_back es
may_end Front es = true
may_end Round es = leads_back es
may_end Turned es = leads_back es

-- what is looked for
pub record Sought : Type 0 where
  pub purpose : Purpose
  pub before : Segment → Segment → Bool
  pub mode : Mode
  pub edges : List Edge
  pub classes : List ℕ
  pub flags : List Bool
  pub pattern : List ℕ

-- what is looked for with a pattern
abbrev pub sought_by : Ground → Purpose → List ℕ → Sought
sought_by area purpose pattern = record {
  purpose = purpose;
  before = is_before area.order.now;
  mode = area.mode;
  edges = edges_of_table area.table.now;
  classes = area.classes.now;
  flags = area.flags.now;
  pattern = pattern;
}

-- a walk that is looked for
abbrev pub IsSought : Sought → List ℕ → Type 0
IsSought s positions =
    IsWalk s.purpose s.before s.mode s.edges s.classes s.flags s.pattern positions

-- there is a class and a flag for each edge
pub record IsEven (s : Sought) : Type 0 where
  pub classes : length s.classes ≡ length s.edges
  pub flags : length s.flags ≡ length s.edges

-- the positions are flagged, of the first classes of the pattern, and pass
pub record IsFront (s : Sought) (front : List ℕ) : Type 0 where
  pub short : length front ≤ length s.pattern
  pub within : All (λ i. i < length s.edges) front
  pub flagged : All (λ i. slice_get s.flags i ≡ Some true) front
  pub of_classes : map (slice_get s.classes) front ≡ map Some (take (length front) s.pattern)
  pub passing : passes s.purpose s.before s.mode (picked s.edges front) ≡ true

-- no walk begins with these positions
abbrev pub NoneFrom : Sought → List ℕ → Type 0
NoneFrom s front = (rest : List ℕ) → ¬ IsSought s (front ++ rest)

-- the least of the walks that begin with these positions
pub record IsLeastFrom (s : Sought) (front walk : List ℕ) : Type 0 where
  pub walks : IsSought s walk
  -- it begins with them
  pub rest : List ℕ
  pub begins : walk ≡ front ++ rest
  -- no other one is less
  pub least : (others : List ℕ) → IsSought s (front ++ others)
      → IsTrue (is_le (slice_cmp nat_cmp walk (front ++ others)))

-- by what the next position is looked up
abbrev pub keyed_after : List ℕ → Keyed
keyed_after [] = ByClass
keyed_after (i ∷ front) = ByLock

-- the lock that the last of these edges wants
abbrev pub lock_after : List Edge → Option ℕ
lock_after [] = None
lock_after (e ∷ es) = Some (last_of e es).wanted

-- the key of the next position
abbrev pub key_after : Sought → List ℕ → Key
key_after s front =
    (unwrap_or (slice_get s.pattern (length front)) 0, lock_after (picked s.edges front))

-- the key of a position that may come next
abbrev pub key_behind : Sought → List ℕ → ℕ → Option Key
key_behind s front = key_at (keyed_after front) s.edges s.classes s.flags

-- no walk goes on with a position before the next one
pub record HasPassed (s : Sought) (front : List ℕ) (next : Option ℕ) : Type 0 where
  pub within : unwrap_or next (length s.edges) ≤ length s.edges
  -- the next one has the key that is looked up
  pub has : (i : ℕ) → next ≡ Some i → (i < length s.edges)
      × (key_behind s front i ≡ Some (key_after s front))
  pub none : (i : ℕ) → i < unwrap_or next (length s.edges) → NoneFrom s (front ++ i ∷ [])

-- there is a walk whose first edge holds this lock
abbrev pub HasFrom : Sought → ℕ → Type 0
HasFrom s lock =
    HasWalkFrom s.purpose s.before s.mode s.edges s.classes s.flags s.pattern lock

-- the key by which the first edge of such a walk is looked up
abbrev pub start_key : Sought → ℕ → Key
start_key s lock = (unwrap_or (slice_get s.pattern 0) 0, Some lock)

-- the key of the edge at a position, by the lock that it holds
abbrev pub key_by_lock : Sought → ℕ → Option Key
key_by_lock s = key_at ByLock s.edges s.classes s.flags

-- none begins with a position before the next one
pub record HasPassedFrom (s : Sought) (lock : ℕ) (next : Option ℕ) : Type 0 where
  pub within : unwrap_or next (length s.edges) ≤ length s.edges
  -- the next one has the key that is looked up
  pub has : (i : ℕ) → next ≡ Some i → (i < length s.edges)
      × (key_by_lock s i ≡ Some (start_key s lock))
  pub none : (i : ℕ) → i < unwrap_or next (length s.edges)
      → key_by_lock s i ≡ Some (start_key s lock) → NoneFrom s (i ∷ [])

-- the edges of the ground are in the chain by their keys
abbrev pub IsChainOf : Keyed → Ground → Chain → Type 0
IsChainOf keyed area chain =
    IsChain (key_at keyed (edges_of_table area.table.now) area.classes.now area.flags.now)
    (length (edges_of_table area.table.now)) 0 chain

-- the index leads through the flagged edges by their classes, and by the locks that they hold
pub record IsIndexed (area : Ground) (by_class by_lock : Chain) : Type 0 where
  -- there is a class and a flag for each edge
  pub classes : length area.classes.now ≡ length area.table.now
  pub flags : length area.flags.now ≡ length area.table.now
  pub through_classes : IsChainOf ByClass area by_class
  pub through_locks : IsChainOf ByLock area by_lock
