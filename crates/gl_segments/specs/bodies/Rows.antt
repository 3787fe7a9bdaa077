-- The clocks of one thread's segments.
use Rattle.std.specs.Prelude.{◌≡◌, ℕ, ◌<◌, List, [], ◌∷◌, length, slice_index_or}
use Rattle.gl_event.specs.declared.events.Segment.{Segment}
use Rattle.gl_segments.specs.Clocks.{Clocks, clock_at}
use Rattle.gl_segments.specs.Segments.{Leads}
use Rattle.gl_segments.specs.bodies.Tables.{Sources, steps_of_thread, LeadsTo, Precedes}
use Rattle.gl_segments.specs.bodies.Search.{IsClockOf}
use Rattle.gl_segments.specs.declared.faults.OrderFault.{OrderFault}
use Rattle.gl_segments.specs.declared.faults.OrderFault.TheVariants.{Inconsistent, Memory}

-- the clocks of the first segments of a thread, none of which is before itself
pub record AreClocksBelow (steps : Sources) (thread : ℕ) (clocks : List (List ℕ))
    (n : ℕ) : Type 0 where
  -- there are n of them
  pub size : length clocks ≡ n
  -- each is its segment's clock
  pub each : (i : ℕ) → i < n
      → IsClockOf steps (clock_at clocks i) (record { thread = thread; index = i })
  -- no segment of them is before itself
  pub apart : (i : ℕ) → i < n
      → ¬ Precedes steps (record { thread = thread; index = i })
      (record { thread = thread; index = i })

-- the clocks of the segments of a thread, none of which is before itself
abbrev pub AreClocksOf : Sources → ℕ → List (List ℕ) → Type 0
AreClocksOf steps thread clocks =
    AreClocksBelow steps thread clocks (length (steps_of_thread steps thread))

-- the clocks of the first n threads
pub record AreClocksTo (steps : Sources) (clocks : Clocks) (n : ℕ) : Type 0 where
  -- there are n of them
  pub size : length clocks ≡ n
  -- each is its thread's
  pub each : (t : ℕ) → t < n → AreClocksOf steps t (slice_index_or clocks t [])

-- this segment of the thread is before itself, along the ring that begins with it, and none of the thread's earlier ones is
pub record IsFirstOfThread (steps : Sources) (thread : ℕ) (at : Segment)
    (ring : List Segment) : Type 0 where
  -- it is of this thread
  pub same_thread : at.thread ≡ thread
  -- the rest of the ring
  pub via : List Segment
  -- the ring begins with it
  pub begins : ring ≡ at ∷ via
  -- the steps lead from it round to it
  pub rings : Leads (LeadsTo steps) at via at
  -- no earlier segment of the thread is before itself
  pub first : (i : ℕ) → i < at.index
      → ¬ Precedes steps (record { thread = thread; index = i })
      (record { thread = thread; index = i })

-- the fault is one of this thread
abbrev pub IsThreadFault : Sources → ℕ → OrderFault → Type 0
IsThreadFault steps thread (Inconsistent at ring) = IsFirstOfThread steps thread at ring.items
IsThreadFault steps thread Memory = Unit {0}
