-- A thread that is followed event by event.
use Rattle.std.specs.Prelude.{◌≡◌, ◌≤◌, ℕ, ◌+◌, List, [], ◌∷◌, ◌++◌, length, vec_len, vec_capacity}
use Rattle.std.specs.Global.{Vec}
use Rattle.gl_event.specs.Bounds.{greatest}
use Rattle.gl_event.specs.States.{State, StandsAfter, MayFollow}
use Rattle.gl_event.specs.declared.events.Event.{Event}
use Rattle.gl_edges.specs.declared.edge.Edge.{Edge}
use Rattle.gl_edges.specs.declared.edge.Sample.{Sample}
use Rattle.gl_edges.specs.declared.tracker.Tracker.{Tracker}

-- the tracker is of this thread, and knows what is known of it after these events
pub record Follows (thread : ℕ) (es : List Event) (tracker : Tracker) : Type 0 where
  -- the thread's number
  pub of_thread : tracker.thread ≡ thread
  -- what is known of it after them
  pub stands : StandsAfter es tracker.state

-- this holds of each list of events after which this is known of a thread
abbrev pub ForEachStanding : State → (List Event → Type 0) → Type 0
ForEachStanding s P = (es : List Event) → StandsAfter es s → P es

-- this holds of each thread and list of events that the tracker follows
abbrev pub ForEachFollowed : Tracker → (ℕ → List Event → Type 0) → Type 0
ForEachFollowed tracker P =
    (thread : ℕ) (es : List Event) → Follows thread es tracker → P thread es

-- the tracker follows this event after those that it followed before
abbrev pub HasAdvanced : Tracker → Event → Tracker → Type 0
HasAdvanced before event after =
    ForEachFollowed before (λ thread es. Follows thread (es ++ event ∷ []) after)

-- the tracker may be given this event next, under the greatest limits
abbrev pub IsNextFor : Tracker → Event → Type 0
IsNextFor tracker event = MayFollow greatest tracker.thread tracker.state event

-- at most two locks are held, and the edges made have room for one more from each: to add them takes no memory
abbrev pub HaveRoom : State → Vec (Edge × Sample) → Type 0
HaveRoom s made =
    (length s.held ≤ 2) × (vec_len made + length s.held ≤ vec_capacity made)
