-- Laws of the order of segments.
use Rattle.std.specs.Prelude.{◌≡◌, ◌↔◌, ℕ, ◌<◌, Bool, IsTrue, List, length, Some, take, slice_get}
use Rattle.gl_event.specs.declared.events.Event.{Event}
use Rattle.gl_event.specs.declared.events.Segment.{Segment}
use Rattle.gl_segments.specs.Segments.{IsSegment, Before, IsConsistent}

-- what is before a segment that is before another is before that one too
abbrev pub BeforeIsTransitive : Type 0
BeforeIsTransitive =
    (lists : List (List Event)) (a b c : Segment) → Before lists a b → Before lists b c
    → Before lists a c

-- only segments of the lists are before others, and only before segments of the lists
abbrev pub BeforeIsBetweenSegments : Type 0
BeforeIsBetweenSegments =
    (lists : List (List Event)) (a b : Segment) → Before lists a b
    → IsSegment lists a × IsSegment lists b

-- a thread's earlier segments are before its later ones
abbrev pub EarlierIsBefore : Type 0
EarlierIsBefore =
    (lists : List (List Event)) (a b : Segment) → IsSegment lists b → a.thread ≡ b.thread
    → a.index < b.index → Before lists a b

-- the test decides which segment of the lists is before which
abbrev pub DecidesBefore : List (List Event) → (Segment → Segment → Bool) → Type 0
DecidesBefore lists test = (a b : Segment) → IsTrue (test a b) ↔ Before lists a b

-- two tests that decide what is before what in the same lists agree
abbrev pub TestsAgree : Type 0
TestsAgree =
    (lists : List (List Event)) (p q : Segment → Segment → Bool) → DecidesBefore lists p
    → DecidesBefore lists q
    → (a b : Segment) → p a b ≡ q a b

-- each of the fronts is the beginning of the list of the same thread
pub record AreFronts (fronts lists : List (List Event)) : Type 0 where
  -- there is one for each thread
  pub threads : length fronts ≡ length lists
  -- it is the first n events of the thread's list
  pub each : (thread : ℕ) (es : List Event) → slice_get lists thread ≡ Some es
      → (n : ℕ) × (slice_get fronts thread ≡ Some (take n es))

-- where lists are consistent, so are their fronts
abbrev pub FrontsAreConsistent : Type 0
FrontsAreConsistent =
    (lists fronts : List (List Event)) → AreFronts fronts lists → IsConsistent lists
    → IsConsistent fronts
