-- Clocks: of each thread, how many of its segments are before a segment.
use Rattle.std.specs.Prelude.{◌↔◌, ℕ, ◌<◌, Bool, IsTrue, List, [], nat_lt, slice_index_or}
use Rattle.gl_event.specs.declared.events.Event.{Event}
use Rattle.gl_event.specs.declared.events.Segment.{Segment}
use Rattle.gl_segments.specs.Segments.{Before}

-- a clock for each segment of each thread
abbrev pub Clocks : Type 0
Clocks = List (List (List ℕ))

-- the clock of the segment of this index among those of one thread, without counts where there is none
abbrev pub clock_at : List (List ℕ) → ℕ → List ℕ
clock_at clocks index = slice_index_or clocks index []

-- how many segments of this thread are before the segment: none, where the thread or the segment isn't known
abbrev pub ahead : Clocks → Segment → ℕ → ℕ
ahead clocks s thread =
    slice_index_or (clock_at (slice_index_or clocks s.thread []) s.index) thread 0

-- the clocks say that a is before b
abbrev pub is_before : Clocks → Segment → Segment → Bool
is_before clocks a b = nat_lt a.index (ahead clocks b a.thread)

-- the clocks decide which segment of the lists is before which
abbrev pub OrdersBy : List (List Event) → Clocks → Type 0
OrdersBy lists clocks = (a b : Segment) → IsTrue (is_before clocks a b) ↔ Before lists a b

-- so many segments of the thread are before this one: its first ones are, and no others
abbrev pub CountsBefore : List (List Event) → Segment → ℕ → ℕ → Type 0
CountsBefore lists a thread n =
    (i : ℕ) → (i < n) ↔ Before lists (record { thread = thread; index = i }) a
