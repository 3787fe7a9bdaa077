-- Epochs: parts of a run of which each is over before the next one begins.
use Rattle.std.specs.Prelude.{◌≡◌, ◌≢◌, ℕ, ◌<◌, ◌≤◌, Bool, true, false, List, slice_get, Option, Some, None, IsSomeAnd}
use Rattle.std.specs.Option.{option_and_then}
use Rattle.gl_event.specs.declared.events.Segment.{Segment}
use Rattle.gl_edges.specs.declared.edge.Edge.{Edge}
use Rattle.gl_segments.specs.Clocks.{Clocks, ahead}
use Rattle.gl_filters.specs.declared.query.Mode.{Mode}
use Rattle.gl_filters.specs.declared.query.Mode.TheVariants.{Full}
use Rattle.gl_filters.specs.Test.{goes_with}
use Rattle.gl_loops.specs.declared.epochs.Epochs.{Epochs}
use Rattle.gl_loops.specs.declared.epochs.Group.{Group}

-- the segment in which the edges of a group begin
abbrev pub begin_of : Group → Segment
begin_of group = record { thread = group.thread; index = group.first }

-- the group of the edge at a position
abbrev pub group_at : Epochs → ℕ → Option Group
group_at epochs i =
    option_and_then (slice_get epochs.groups.items) (slice_get epochs.places.items i)

-- the epoch of a group, and 0 where there is none
abbrev pub epoch_of : Option Group → ℕ
epoch_of (Some group) = group.epoch
epoch_of None = 0

-- the epoch of the edge at a position
abbrev pub epoch_at : Epochs → ℕ → ℕ
epoch_at epochs i = epoch_of (group_at epochs i)

-- the edge is of the group's thread, begins where the group does, and is over when that is
pub record IsIn (e : Edge) (group : Group) : Type 0 where
  pub of_thread : group.thread ≡ e.thread
  pub begins : group.first ≡ e.first
  pub is_over : e.second ≤ group.last

-- each edge that is kept is in its group
abbrev pub AreGrouped : Epochs → List Edge → List Bool → Type 0
AreGrouped epochs edges kept =
    (i : ℕ) (e : Edge) → slice_get edges i ≡ Some e → slice_get kept i ≡ Some true
    → IsSomeAnd (group_at epochs i) (IsIn e)

module _ (mode : Mode) (clocks : Clocks) where
  -- the order counts, and the one group is over before the other begins
  pub record IsOverBefore (one other : Group) : Type 0 where
    pub counts : mode ≡ Full
    pub is_over : one.last < ahead clocks (begin_of other) one.thread

  -- so it is if it is of an earlier epoch and of another thread
  abbrev pub IsInOrder : Group → Group → Type 0
  IsInOrder one other =
      one.epoch < other.epoch → one.thread ≢ other.thread → IsOverBefore one other

  -- so is each group before each other one
  abbrev pub AreInOrder : List Group → Type 0
  AreInOrder groups =
      (one other : Group) (i j : ℕ) → slice_get groups i ≡ Some one
      → slice_get groups j ≡ Some other → IsInOrder one other

-- no two edges that aren't left out and are of different epochs stand in a cycle together
abbrev pub AreCut : (Segment → Segment → Bool) → Mode → (ℕ → ℕ) → List Edge → List Bool → Type 0
AreCut before mode epoch edges kept =
    (i j : ℕ) (e f : Edge) → slice_get edges i ≡ Some e → slice_get edges j ≡ Some f
    → ¬ (slice_get kept i ≡ Some false) → ¬ (slice_get kept j ≡ Some false) → epoch i ≢ epoch j
    → goes_with before mode e f ≡ false
