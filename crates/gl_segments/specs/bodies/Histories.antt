-- The clocks of a thread's segments, by where they grow.
use Rattle.std.specs.Prelude.{◌≡◌, ◌≢◌, ℕ, zero, suc, ◌+◌, ◌<◌, ◌≤◌, ◌⊎◌, Bool, ◌&&◌, ◌||◌, List, [], ◌∷◌, ◌++◌, All, filter, length, slice_index, slice_index_or, ◌==◌, nat_le, nat_lt, if◌then◌else◌}
use Rattle.std.specs.List.Sorted.{IsNonDecreasingBy}
use Rattle.gl_segments.specs.Clocks.{clock_at}
use Rattle.gl_segments.specs.declared.growths.Growth.{Growth}
use Rattle.gl_segments.specs.declared.history.Growing.{Growing}

-- the growth is of this thread, and this segment is the one from which it holds or a later one
abbrev pub is_past : ℕ → ℕ → Growth → Bool
is_past index thread g = (g.thread == thread) && nat_le g.from index

-- the count of the last growth, or this one where there is none
abbrev pub last_count : ℕ → List Growth → ℕ
last_count base [] = base
last_count base (g ∷ gs) = last_count g.count gs

-- how many segments of a thread are before the segment of this index, where so many are before the first one
unfoldable pub count_at : ℕ → List Growth → ℕ → ℕ → ℕ
count_at first growths index thread = last_count first (filter (is_past index thread) growths)

-- f 0, f 1 and so on: n of them
abbrev pub tabulated : {A : Type 0} → ℕ → (ℕ → A) → List A
tabulated zero f = []
tabulated (suc n) f = tabulated n f ++ f n ∷ []

-- the count of a thread at the segment of this index of `own`: all earlier segments of that thread itself are before it
abbrev pub count_along : ℕ → List ℕ → List Growth → ℕ → ℕ → ℕ
count_along own first growths index thread =
    if thread == own then index else count_at (slice_index first thread) growths index thread

-- the clocks of so many segments of `own`, among so many threads
unfoldable pub clocks_along : ℕ → ℕ → ℕ → List ℕ → List Growth → List (List ℕ)
clocks_along own segments threads first growths =
    tabulated segments (λ index. tabulated threads (count_along own first growths index))

-- no growth after another is of a lesser thread, or of the same one from an earlier segment
abbrev pub IsAtMost : Growth → Growth → Type 0
IsAtMost g h = (g.thread < h.thread) ⊎ ((g.thread ≡ h.thread) × (g.from ≤ h.from))

-- the growths stand by thread, and those of a thread by segment
pub record AreOrdered (growths : List Growth) : Type 0 where
  -- each is at most the next one
  pub next : (k : ℕ) (d : Growth) → k + 1 < length growths
      → IsAtMost (slice_index_or growths k d) (slice_index_or growths (k + 1) d)

-- the growth is of a lesser thread, or of this one and this segment is past it
abbrev pub is_up_to : ℕ → ℕ → Growth → Bool
is_up_to index thread g = nat_lt g.thread thread || is_past index thread g

-- a first clock, growths after it and the latest counts tell these clocks of the segments of `own`
pub record Tells (own : ℕ) (first : List ℕ) (growths : List Growth) (latest : List ℕ)
    (clocks : List (List ℕ)) : Type 0 where
  -- at each segment, of each other thread, the clock's count
  pub each : (index thread : ℕ) → index < length clocks → thread ≢ own
      → count_at (slice_index first thread) growths index thread
      ≡ slice_index (clock_at clocks index) thread
  -- at the next segment, so far, the latest count
  pub now : (thread : ℕ) → thread ≢ own
      → count_at (slice_index first thread) growths (length clocks) thread
      ≡ slice_index latest thread
  -- no growth is from later on
  pub until : All (λ g. g.from ≤ length clocks) growths
  -- they stand by segment
  pub rising : IsNonDecreasingBy (λ g. g.from) growths
  -- before the first clock there are none
  pub begins : length clocks ≡ 0 → growths ≡ []
  -- each clock has as many counts as the latest one
  pub widths : (index : ℕ) → index < length clocks
      → length (clock_at clocks index) ≡ length latest
  -- all earlier segments of the thread itself are before each
  pub own_counts : (index : ℕ) → index < length clocks
      → slice_index (clock_at clocks index) own ≡ index

-- these are the clocks that came
pub record IsNoted (g : Growing) (clocks : List (List ℕ)) : Type 0 where
  -- so many
  pub size : g.segments ≡ length clocks
  -- what was kept tells them
  pub tells : Tells g.thread g.first.items g.growths.items g.latest clocks

-- the clocks that came, one or more, are the same still
abbrev pub KeepsClocks : Growing → Growing → Type 0
KeepsClocks before after =
    (clocks : List (List ℕ)) → 0 < length clocks → IsNoted before clocks → IsNoted after clocks

-- no clock came: it is the same thread, with as many clocks
pub record AddsNoClock (before after : Growing) : Type 0 where
  -- the thread is the same
  pub thread : after.thread ≡ before.thread
  -- and so is how many clocks came
  pub segments : after.segments ≡ before.segments
