-- Ways back: walks from the lock that an edge wants to the lock that it holds, and labels of locks, which show that there is none.
use Rattle.std.specs.Prelude.{◌≡◌, ℕ, ◌+◌, ◌≤◌, Bool, true, List, map, slice_get, Some, unwrap_or}
use Rattle.gl_event.specs.declared.events.Segment.{Segment}
use Rattle.gl_edges.specs.declared.edge.Edge.{Edge}
use Rattle.gl_filters.specs.declared.query.Mode.{Mode}
use Rattle.gl_filters.specs.Test.{goes_with}
use Rattle.gl_sought.specs.declared.numbers.Ends.{Ends}

-- the numbers of the locks of an edge
abbrev pub ends_in : (ℕ → ℕ) → Edge → Ends
ends_in number e = record { held = number e.held; wanted = number e.wanted }

-- these are the numbers of the locks of each edge
abbrev pub AreEnds : (ℕ → ℕ) → List Edge → List Ends → Type 0
AreEnds number edges ends = ends ≡ map (ends_in number) edges

-- each lock of the edges has a number
abbrev pub IsNumbered : List Edge → List Ends → Type 0
IsNumbered edges ends = (number : ℕ → ℕ) × AreEnds number edges ends

-- the label at a number, and 0 where there is none
abbrev pub label_at : List ℕ → ℕ → ℕ
label_at labels n = unwrap_or (slice_get labels n) 0

-- along each edge that is kept the label of a lock grows by one at the most
abbrev pub GrowByOne : List Bool → List Ends → List ℕ → Type 0
GrowByOne kept ends labels =
    (i : ℕ) (d : Ends) → slice_get kept i ≡ Some true → slice_get ends i ≡ Some d
    → label_at labels d.wanted ≤ label_at labels d.held + 1

-- a certificate: along each edge that is kept and goes with the one at x the label of a lock grows by one at the most, and from the
-- lock that this one wants to the one that it holds by too much for the other edges of a cycle
pub record ShowsNoWay (before : Segment → Segment → Bool) (mode : Mode) (len : ℕ)
    (edges : List Edge) (kept : List Bool) (ends : List Ends) (labels : List ℕ)
    (x : ℕ) : Type 0 where
  pub far : (d : Ends) → slice_get ends x ≡ Some d
      → label_at labels d.wanted + len ≤ label_at labels d.held
  pub near : (i : ℕ) (e f : Edge) (d : Ends) → slice_get edges i ≡ Some e
      → slice_get kept i ≡ Some true → slice_get ends i ≡ Some d → slice_get edges x ≡ Some f
      → goes_with before mode e f ≡ true → label_at labels d.wanted ≤ label_at labels d.held + 1
