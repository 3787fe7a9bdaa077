-- The edges of lists of events, and their samples, in the words of the events.
use Rattle.std.specs.Prelude.{◌≡◌, ℕ, ◌<◌, ◌≤◌, List, Some, take, slice_get, Contains}
use Rattle.std.specs.Option.{option_map}
use Rattle.gl_event.specs.Events.{depth, held_mode, location, opened, segment}
use Rattle.gl_event.specs.declared.events.Event.{Event}
use Rattle.gl_event.specs.declared.events.Event.TheVariants.{Acquire}
use Rattle.gl_edges.specs.Edges.{guards}
use Rattle.gl_edges.specs.declared.edge.Edge.{Edge}
use Rattle.gl_edges.specs.declared.edge.Sample.{Sample}

-- at this place of its list of events, a thread wants and acquires the wanted lock while it holds the held one
pub record Makes (es : List Event) (place : ℕ) (edge : Edge) : Type 0 where
  -- where in the source the acquire stands
  pub loc : ℕ
  -- the thread acquires the wanted lock there, in the wanted mode, and could have waited for it
  pub wants : slice_get es place ≡ Some (Acquire edge.wanted_mode edge.wanted loc)
  -- and didn't hold it
  pub outermost : depth (take place es) edge.wanted ≡ 0
  -- it holds the held lock
  pub holds : 0 < depth (take place es) edge.held
  -- in the mode of the acquire that opened it
  pub holds_as : edge.held_mode ≡ held_mode (take place es) edge.held
  -- and opened that one in the first segment
  pub opened_in : edge.first ≡ segment (take (opened (take place es) edge.held) es)
  -- the acquire lies in the second segment
  pub acquired_in : edge.second ≡ segment (take place es)
  -- the guards are all locks that the thread holds, each in its mode
  pub guarded : edge.guards ≡ guards (take place es)

-- the thread of the edge makes it at some place
pub record IsMade (lists : List (List Event)) (edge : Edge) : Type 0 where
  -- the events of the edge's thread
  pub es : List Event
  -- the list at the number of the thread
  pub of_thread : slice_get lists edge.thread ≡ Some es
  -- where it makes the edge
  pub place : ℕ
  -- it makes the edge there
  pub made : Makes es place edge

-- the thread of the edge makes it at the place of the sample, and at no earlier one
pub record IsMadeFirst (lists : List (List Event)) (edge : Edge) (sample : Sample) : Type 0 where
  -- the events of the edge's thread
  pub es : List Event
  -- the list at the number of the thread
  pub of_thread : slice_get lists edge.thread ≡ Some es
  -- it makes the edge there
  pub made : Makes es sample.place edge
  -- and at no earlier place
  pub first : (place : ℕ) → Makes es place edge → sample.place ≤ place
  -- where in the source the held lock was opened
  pub held_at : option_map location (slice_get es (opened (take sample.place es) edge.held))
      ≡ Some sample.held_loc
  -- where in the source the wanted lock was acquired
  pub wanted_at : option_map location (slice_get es sample.place) ≡ Some sample.wanted_loc

-- each pair of the first list stands in the second
abbrev pub AreAmong : List (Edge × Sample) → List (Edge × Sample) → Type 0
AreAmong xs ys = (pair : Edge × Sample) → Contains xs pair → Contains ys pair
