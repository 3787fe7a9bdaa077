-- Cycles of edges: the potential deadlocks.
-- The order of segments is a parameter: a test of whether the first of two segments is before the second.
use Rattle.std.specs.Prelude.{◌≡◌, ◌≢◌, ℕ, ◌+◌, ◌≤◌, ◌-◌, Bool, true, false, ◌||◌, List, length, slice_get, Some, All, AllPairs, Contains}
use Rattle.gl_event.specs.declared.events.Segment.{Segment}
use Rattle.gl_event.specs.Modes.{conflict}
use Rattle.gl_event.specs.declared.events.LockMode.{LockMode}
use Rattle.gl_edges.specs.declared.edge.Edge.{Edge}
use Rattle.gl_edges.specs.declared.guards.Guard.{Guard}
use Rattle.gl_filters.specs.declared.query.Mode.{Mode}
use Rattle.gl_filters.specs.declared.query.Mode.TheVariants.{Basic, Guarded, Full}

-- the mode asks for guard sets without a gate
abbrev pub asks_guards : Mode → Bool
asks_guards Basic = false
asks_guards Guarded = true
asks_guards Full = true

-- the mode asks for edges that are not ordered
abbrev pub asks_order : Mode → Bool
asks_order Basic = false
asks_order Guarded = false
asks_order Full = true

-- the segment in which the edge's held lock was opened, and the one in which its wanted lock was acquired
abbrev pub first_segment : Edge → Segment
first_segment e = record { thread = e.thread; index = e.first }

abbrev pub second_segment : Edge → Segment
second_segment e = record { thread = e.thread; index = e.second }

-- one edge is over before the other begins
abbrev pub is_ordered : (Segment → Segment → Bool) → Edge → Edge → Bool
is_ordered before e f =
    before (second_segment e) (first_segment f) || before (second_segment f) (first_segment e)

-- one edge leads on to another: it wants the lock that the other one holds, and not both as readers
pub record LeadsOn (e f : Edge) : Type 0 where
  pub same_lock : e.wanted ≡ f.held
  pub in_conflict : conflict e.wanted_mode f.held_mode ≡ true

-- the lock is a gate: both guard sets have it, and not both shared, so that one thread keeps the other out
pub record HasGate (gs hs : List Guard) (lock : ℕ) : Type 0 where
  pub one : LockMode
  pub other : LockMode
  pub in_one : Contains gs (record { lock = lock; mode = one })
  pub in_other : Contains hs (record { lock = lock; mode = other })
  pub in_conflict : conflict one other ≡ true

-- no lock is a gate of the two edges
abbrev pub AreApart : Edge → Edge → Type 0
AreApart e f = (lock : ℕ) → ¬ HasGate e.guards f.guards lock

-- a cycle of this mode of at most this many edges
pub record IsCycle (before : Segment → Segment → Bool) (mode : Mode) (len : ℕ)
    (cycle : List Edge) : Type 0 where
  -- it has two edges or more, and not too many
  pub two_or_more : 2 ≤ length cycle
  pub not_too_long : length cycle ≤ len
  -- each edge leads on to the next, and the last one to the first
  pub leads_on : (i : ℕ) (e f : Edge) → slice_get cycle i ≡ Some e
      → slice_get cycle (i + 1) ≡ Some f → LeadsOn e f
  pub leads_back : (e f : Edge) → slice_get cycle (length cycle - 1) ≡ Some e
      → slice_get cycle 0 ≡ Some f → LeadsOn e f
  -- the held locks differ, and so do the threads
  pub locks_differ : AllPairs (λ e f. e.held ≢ f.held) cycle
  pub threads_differ : AllPairs (λ e f. e.thread ≢ f.thread) cycle
  -- it begins with the least thread, so that each cycle is listed once and not once for each rotation
  pub least_first : (e : Edge) → slice_get cycle 0 ≡ Some e → All (λ f. e.thread ≤ f.thread) cycle
  -- no two edges have a gate, where the mode asks for it
  pub apart : asks_guards mode ≡ true → AllPairs AreApart cycle
  -- no two edges are ordered, where the mode asks for it
  pub unordered : asks_order mode ≡ true → AllPairs (λ e f. is_ordered before e f ≡ false) cycle
