-- Clocks that are raised by other clocks.
use Rattle.std.specs.Prelude.{◌≡◌, ◌≤◌, ◌<◌, ◌⊎◌, ◌+◌, ℕ, List, length, max, slice_index, slice_set}
use Rattle.gl_event.specs.declared.events.Segment.{Segment}

-- the counts, raised so that they count this segment
abbrev pub raised_to : List ℕ → Segment → List ℕ
raised_to clock a = slice_set clock a.thread (max (slice_index clock a.thread) (a.index + 1))

-- n is the same as a, or no more than b
abbrev pub IsSameOrUpTo : ℕ → ℕ → ℕ → Type 0
IsSameOrUpTo n a b = (n ≡ a) ⊎ (n ≤ b)

-- the old counts, raised to another clock's of the first n threads, and of the others perhaps
pub record IsMerged (old other new : List ℕ) (n : ℕ) : Type 0 where
  -- as many as before
  pub width : length new ≡ length old
  -- none is less than before
  pub kept : (k : ℕ) → slice_index old k ≤ slice_index new k
  -- nor less than the other clock's
  pub covers : (k : ℕ) → k < n → slice_index other k ≤ slice_index new k
  -- each is as before, or no more than the other clock's
  pub only : (k : ℕ) → IsSameOrUpTo (slice_index new k) (slice_index old k) (slice_index other k)

-- the thread's count is this one or a greater one, or no less than the other clock's; unless there is no such thread
abbrev pub IsReached : List ℕ → List ℕ → ℕ → ℕ → Type 0
IsReached other new k count =
    (count ≤ slice_index new k) ⊎ ((slice_index other k ≤ slice_index new k) ⊎ (length new ≤ k))
