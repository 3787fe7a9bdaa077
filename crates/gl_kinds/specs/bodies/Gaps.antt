-- Gaps of rounds: what is missing from the lock that the last edge of a path wants back to the one that its first edge holds.
use Rattle.std.specs.Prelude.{◌≡◌, ℕ, ◌+◌, ◌-◌, ◌<◌, ◌≤◌, Bool, true, List, [], ◌∷◌, length, slice_get, Some, All, Contains}
use Rattle.gl_event.specs.declared.events.Segment.{Segment}
use Rattle.gl_edges.specs.declared.edge.Edge.{Edge}
use Rattle.gl_filters.specs.declared.query.Mode.{Mode}
use Rattle.gl_filters.specs.Cycle.{IsCycle}
use Rattle.gl_filters.specs.Picked.{edges_of_table}
use Rattle.gl_filters.specs.Test.{waits_for}
use Rattle.gl_segments.specs.Clocks.{is_before}
use Rattle.gl_kinds.specs.bodies.Kinds.{AreAlike, may_meet, AreWithin, HasModels, NoneThrough}
use Rattle.gl_sought.specs.Places.{place_after}
use Rattle.gl_kinds.specs.declared.dead_ends.DeadEnd.{DeadEnd}
use Rattle.gl_kinds.specs.declared.dead_ends.Gap.{Gap}
use Rattle.gl_kinds.specs.declared.grains.Grain.{Grain}
use Rattle.gl_kinds.specs.declared.rounds.Rounds.{Rounds}

-- what is missing after this edge alone
abbrev pub gap_of : Edge → ℕ → Gap
gap_of e len =
    record {
      wanted = e.wanted;
      wanted_mode = e.wanted_mode;
      held = e.held;
      held_mode = e.held_mode;
      left = len - 1;
    }

-- nothing is missing
abbrev pub gap_closes : Gap → Bool
gap_closes gap = waits_for gap.wanted gap.wanted_mode gap.held gap.held_mode

-- this edge may come next
abbrev pub gap_leads : Gap → Edge → Bool
gap_leads gap e = waits_for gap.wanted gap.wanted_mode e.held e.held_mode

-- what is missing after it
abbrev pub gap_behind : Gap → Edge → Gap
gap_behind gap e =
    record {
      wanted = e.wanted;
      wanted_mode = e.wanted_mode;
      held = gap.held;
      held_mode = gap.held_mode;
      left = gap.left - 1;
    }

-- the gap and these models are among the dead ends
pub record IsKnown (ends : List DeadEnd) (gap : Gap) (rest : List ℕ) : Type 0 where
  pub place : ℕ
  pub end : DeadEnd
  pub stands : slice_get ends place ≡ Some end
  pub same_gap : end.gap ≡ gap
  pub same_rest : end.rest.items ≡ rest

-- those of the rest that may meet the edge at a position are among these
abbrev pub IsNarrowed : (Segment → Segment → Bool) → Mode → Grain → List Edge → List ℕ → ℕ → List ℕ
    → Type 0
IsNarrowed before mode grain edges rest next some =
    (i : ℕ) (d f : Edge) → Contains rest i → slice_get edges i ≡ Some d
    → slice_get edges next ≡ Some f → may_meet before mode grain f d ≡ true → Contains some i

-- the flags are set at these positions alone
abbrev pub HasFlagged : List Bool → List ℕ → Type 0
HasFlagged flags models = (i : ℕ) → slice_get flags i ≡ Some true → Contains models i

module _ (before : Segment → Segment → Bool) (mode : Mode) (grain : Grain) (len : ℕ)
    (edges : List Edge) (flags : List Bool) where
  -- from place k on a cycle has come m places on, and closes the gap by edges whose models are among these
  pub record ClosesBy (gap : Gap) (rest : List ℕ) (cycle : List Edge) (k m : ℕ) : Type 0 where
    pub within : k < length cycle
    pub reached : m < length cycle
    pub short : length cycle ≤ m + 1 + gap.left
    pub begins : (f : Edge) → slice_get cycle k ≡ Some f
        → (f.held ≡ gap.held) × (f.held_mode ≡ gap.held_mode)
    pub ends : (f : Edge) → slice_get cycle (place_after (length cycle) k m) ≡ Some f
        → (f.wanted ≡ gap.wanted) × (f.wanted_mode ≡ gap.wanted_mode)
    pub among : (o i : ℕ) (d f : Edge) → m < o → o < length cycle
        → slice_get cycle (place_after (length cycle) k o) ≡ Some f → slice_get edges i ≡ Some d
        → slice_get flags i ≡ Some true
        → AreAlike grain d f → Contains rest i

  -- no cycle of this mode, of at most len of these edges, closes the gap by them
  abbrev pub IsHopeless : Gap → List ℕ → Type 0
  IsHopeless gap rest =
      (cycle : List Edge) (k m : ℕ) → All (Contains edges) cycle → IsCycle before mode len cycle
      → ¬ ClosesBy gap rest cycle k m

  -- none does where this model is the next one
  abbrev pub NoneBy : Gap → List ℕ → ℕ → Type 0
  NoneBy gap rest i =
      (cycle : List Edge) (k m : ℕ) (d f : Edge) → All (Contains edges) cycle
      → IsCycle before mode len cycle → ClosesBy gap rest cycle k m
      → m + 1 < length cycle → slice_get cycle (place_after (length cycle) k (m + 1)) ≡ Some f
      → slice_get edges i ≡ Some d → ¬ AreAlike grain d f

  -- each of these is so
  abbrev pub AreHopeless : List DeadEnd → Type 0
  AreHopeless ends =
      (i : ℕ) (end : DeadEnd) → slice_get ends i ≡ Some end → IsHopeless end.gap end.rest.items

-- no cycle that is sought closes the gap by these models
abbrev pub IsDeadEnd : Rounds → Gap → List ℕ → Type 0
IsDeadEnd r gap rest =
    IsHopeless (is_before r.sought.order.now) r.sought.mode r.grain r.sought.len
    (edges_of_table r.sought.table.now) r.flags.items gap rest

-- none closes one of these gaps by its rest
abbrev pub AreDeadEnds : Rounds → List DeadEnd → Type 0
AreDeadEnds r ends =
    AreHopeless (is_before r.sought.order.now) r.sought.mode r.grain r.sought.len
    (edges_of_table r.sought.table.now) r.flags.items ends

-- rounds can be looked for, all models stand at these positions, and to those that are flagged as dead no edge of a cycle that is sought is alike
pub record KnowsModels (r : Rounds) (models : List ℕ) (dead : List Bool) : Type 0 where
  pub lawful : HasModels r
  pub within : AreWithin r models
  pub all : HasFlagged r.flags.items models
  pub none_through : (j : ℕ) → slice_get dead j ≡ Some true → NoneThrough r (j ∷ [])
