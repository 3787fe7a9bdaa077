-- The steps by the segment to which they lead, and what a search backwards from a segment has found.
use Rattle.std.specs.Prelude.{◌≡◌, ◌↔◌, ℕ, zero, suc, ◌+◌, ◌-◌, ◌<◌, ◌⊎◌, List, [], ◌∷◌, length, Some, slice_get, slice_index}
use Rattle.gl_event.specs.declared.events.Segment.{Segment}
use Rattle.gl_segments.specs.declared.search.Link.{Link}
use Rattle.gl_segments.specs.bodies.Tables.{Sources, LeadsTo, Precedes}

-- the clock counts this segment
abbrev pub Counts : List ℕ → Segment → Type 0
Counts clock s = s.index < slice_index clock s.thread

-- the clock counts exactly the segments that are before this one
abbrev pub IsClockOf : Sources → List ℕ → Segment → Type 0
IsClockOf steps clock s = (a : Segment) → Counts clock a ↔ Precedes steps a s

-- the clock counts each segment that is one step before this one
abbrev pub CountsSources : Sources → List ℕ → Segment → Type 0
CountsSources steps clock s = (a : Segment) → LeadsTo steps a s → Counts clock a

-- a later entry of what was found is this segment
abbrev pub IsFound : List Link → Segment → Type 0
IsFound found s = (k : ℕ) × (l : Link) × (0 < k) × (slice_get found k ≡ Some l) × (l.segment ≡ s)

-- the clock from which a search may start
pub record MayStart (steps : Sources) (clock : List ℕ) (target : Segment) : Type 0 where
  -- it has a count for each thread
  pub width : length clock ≡ length steps
  -- what it counts is before the target
  pub before : (s : Segment) → Counts clock s → Precedes steps s target
  -- the target isn't counted
  pub fresh : ¬ Counts clock target
  -- it counts what is before a segment that it counts
  pub closed : (s : Segment) → Counts clock s → CountsSources steps clock s

-- the entries of a search: the target, and then segments that are before it, each linked to one that it is one step before
pub record AreLinks (steps : Sources) (target : Segment) (found : List Link) : Type 0 where
  -- the first is the target
  pub begins : (l : Link) × (slice_get found 0 ≡ Some l) × (l.segment ≡ target)
  -- each later one is one step before the earlier one to which it links
  pub linked : (k : ℕ) (l : Link) → 0 < k → slice_get found k ≡ Some l
      → (l.next < k) × ((m : Link) × (slice_get found l.next ≡ Some m)
      × LeadsTo steps l.segment m.segment)
  -- each later one is before the target
  pub precedes : (k : ℕ) (l : Link) → 0 < k → slice_get found k ≡ Some l
      → Precedes steps l.segment target

-- how far a search for what is before the target has come, where it has looked at the first `done` of the entries found
pub record Explores (steps : Sources) (target : Segment) (clock : List ℕ) (found : List Link)
    (done : ℕ) : Type 0 where
  -- the clock has a count for each thread
  pub width : length clock ≡ length steps
  -- the entries are links
  pub links : AreLinks steps target found
  -- what the clock counts is before the target
  pub before : (s : Segment) → Counts clock s → Precedes steps s target
  -- it was found, or what is one step before it is counted too
  pub known : (s : Segment) → Counts clock s → CountsSources steps clock s ⊎ IsFound found s
  -- the target itself is counted only where it was found
  pub met : Counts clock target → IsFound found target
  -- what is one step before an entry that was looked at is counted
  pub looked : (k : ℕ) (l : Link) → k < done → slice_get found k ≡ Some l
      → CountsSources steps clock l.segment

-- each entry of what was found is of one of so many threads
abbrev pub IsAmong : List Link → ℕ → Type 0
IsAmong found threads = (k : ℕ) (l : Link) → slice_get found k ≡ Some l → l.segment.thread < threads

-- an entry of what was found is of this thread
abbrev pub HasThread : List Link → ℕ → Type 0
HasThread found thread =
    (k : ℕ) × (l : Link) × (slice_get found k ≡ Some l) × (l.segment.thread ≡ thread)

-- each count of the new clock is the old one's, or an entry of what was found is of its thread
abbrev pub GrowsBy : List ℕ → List Link → List ℕ → Type 0
GrowsBy old found new =
    (thread : ℕ) → (slice_index new thread ≡ slice_index old thread) ⊎ HasThread found thread

-- the links of n segments of one thread, from s downwards: the first links to `next`, each other to the one before it, which stand from p on
abbrev pub links_back : Segment → ℕ → ℕ → ℕ → List Link
links_back s next p zero = []
links_back s next p (suc n) =
    record { segment = s; next = next }
    ∷ links_back (record { thread = s.thread; index = s.index - 1 }) p (p + 1) n

-- how many segments the clock doesn't count
abbrev pub unseen : Sources → List ℕ → ℕ
unseen [] clock = 0
unseen (r ∷ rows) [] = 0
unseen (r ∷ rows) (c ∷ clock) = (length r - c) + unseen rows clock

-- from entry k on, these are the segments along the links, up to the first entry, which is left out
abbrev pub FollowsLinks : List Link → ℕ → List Segment → Type 0
FollowsLinks found k [] = k ≡ 0
FollowsLinks found k (s ∷ rest) =
    (l : Link) × (0 < k) × (slice_get found k ≡ Some l) × (l.segment ≡ s)
    × FollowsLinks found l.next rest
