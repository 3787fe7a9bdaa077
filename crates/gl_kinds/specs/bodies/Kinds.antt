-- Edges that are alike: in their locks, modes and guards, and as far as a grain tells them apart in their threads and segments.
use Rattle.std.specs.Prelude.{◌≡◌, ℕ, ◌-◌, ◌<◌, ◌≤◌, Bool, true, not, ◌&&◌, ◌==◌, List, [], ◌∷◌, ◌++◌, length, slice_get, Option, Some, IfSome, unwrap_or, All, Contains}
use Rattle.gl_event.specs.declared.events.Segment.{Segment}
use Rattle.gl_edges.specs.declared.edge.Edge.{Edge}
use Rattle.gl_filters.specs.declared.query.Mode.{Mode}
use Rattle.gl_filters.specs.Cycle.{IsCycle}
use Rattle.gl_filters.specs.Test.{leads_to, goes_with, kinds_go_together}
use Rattle.gl_segments.specs.Clocks.{is_before}
use Rattle.gl_filters.specs.Picked.{edges_of_table}
use Rattle.gl_index.specs.Indexes.{IsIndexOf}
use Rattle.gl_kinds.specs.Kinds.{AreOfOneKind}
use Rattle.gl_kinds.specs.declared.grains.Grain.{Grain}
use Rattle.gl_kinds.specs.declared.grains.Grain.TheVariants.{ByKind, ByThread, BySegment}
use Rattle.gl_kinds.specs.declared.rounds.Rounds.{Rounds}
use Rattle.gl_sought.specs.Places.{place_after}

-- the threads and segments of two edges are the same, as far as the grain tells them apart
abbrev pub AreMadeAlike : Grain → Edge → Edge → Type 0
AreMadeAlike ByKind e f = Unit {0}
AreMadeAlike ByThread e f = e.thread ≡ f.thread
AreMadeAlike BySegment e f = (e.thread ≡ f.thread) × ((e.first ≡ f.first) × (e.second ≡ f.second))

-- two edges are alike: of one kind, and the same in what else the grain tells apart
pub record AreAlike (grain : Grain) (e f : Edge) : Type 0 where
  pub of_one_kind : AreOfOneKind e f
  pub made : AreMadeAlike grain e f

-- edges that are alike to these two may stand in one cycle of this mode, as far as the grain tells
abbrev pub may_meet : (Segment → Segment → Bool) → Mode → Grain → Edge → Edge → Bool
may_meet before mode ByKind e f = kinds_go_together mode e f
may_meet before mode ByThread e f = not (e.thread == f.thread) && kinds_go_together mode e f
may_meet before mode BySegment e f = goes_with before mode e f

-- an edge alike to this one is flagged: its model
pub record HasModel (grain : Grain) (edges : List Edge) (flags : List Bool)
    (e : Edge) : Type 0 where
  pub place : ℕ
  pub model : Edge
  pub stands : slice_get edges place ≡ Some model
  pub flagged : slice_get flags place ≡ Some true
  pub alike : AreAlike grain model e

-- each edge that is kept has a model
abbrev pub AreModels : Grain → List Edge → List Bool → List Bool → Type 0
AreModels grain edges kept flags =
    (i : ℕ) (e : Edge) → slice_get edges i ≡ Some e → slice_get kept i ≡ Some true
    → HasModel grain edges flags e

-- from place k on the cycle goes through edges that are alike to those at these positions
pub record GoesThrough (grain : Grain) (edges cycle : List Edge) (k : ℕ)
    (path : List ℕ) : Type 0 where
  pub within : k < length cycle
  pub fits : length path ≤ length cycle
  pub alike : (m i : ℕ) (e f : Edge) → slice_get path m ≡ Some i → slice_get edges i ≡ Some e
      → slice_get cycle (place_after (length cycle) k m) ≡ Some f → AreAlike grain e f

-- the last edge of the path leads on to this one
abbrev pub LastLeadsTo : List Edge → List ℕ → Edge → Type 0
LastLeadsTo edges path f =
    (i : ℕ) (e : Edge) → slice_get path (length path - 1) ≡ Some i → slice_get edges i ≡ Some e
    → leads_to e f ≡ true

-- edges alike to those of the path may stand in one cycle with edges alike to this one
abbrev pub MayMeetAll : (Segment → Segment → Bool) → Mode → Grain → List Edge → List ℕ → Edge
    → Type 0
MayMeetAll before mode grain edges path f =
    (m i : ℕ) (e : Edge) → slice_get path m ≡ Some i → slice_get edges i ≡ Some e
    → may_meet before mode grain e f ≡ true

module _ (before : Segment → Segment → Bool) (mode : Mode) (grain : Grain) (len : ℕ)
    (edges : List Edge) where
  -- no cycle of this mode, of at most len of these edges, goes through edges that are alike to these
  abbrev pub NoCycleThrough : List ℕ → Type 0
  NoCycleThrough path =
      (cycle : List Edge) (k : ℕ) → All (Contains edges) cycle → IsCycle before mode len cycle
      → ¬ GoesThrough grain edges cycle k path

  -- the flags are set at positions of edges to which none of a cycle is alike
  pub record AreDead (flags : List Bool) : Type 0 where
    pub long : length flags ≡ length edges
    pub each : (i : ℕ) → slice_get flags i ≡ Some true → NoCycleThrough (i ∷ [])

  -- each edge of such a cycle has a model
  abbrev pub CyclesHaveModels : List Bool → Type 0
  CyclesHaveModels flags =
      (cycle : List Edge) (i : ℕ) (e : Edge) → All (Contains edges) cycle
      → IsCycle before mode len cycle → slice_get cycle i ≡ Some e → HasModel grain edges flags e

  -- what is known where models that hold a lock were tried as the next edge of a path, up to the next one of them
  pub record AreTried (flags : List Bool) (path : List ℕ) (lock : ℕ)
      (next : Option ℕ) : Type 0 where
    pub reaches : unwrap_or next (length edges) ≤ length edges
    pub holds : IfSome next
        (λ i. (i < length edges) × ((e : Edge) → slice_get edges i ≡ Some e → e.held ≡ lock))
    pub tried : (i : ℕ) (e : Edge) → i < unwrap_or next (length edges) → slice_get edges i ≡ Some e
        → slice_get flags i ≡ Some true → e.held ≡ lock → NoCycleThrough (path ++ i ∷ [])

-- no cycle that is sought goes through edges that are alike to these
abbrev pub NoneThrough : Rounds → List ℕ → Type 0
NoneThrough r path =
    NoCycleThrough (is_before r.sought.order.now) r.sought.mode r.grain r.sought.len
    (edges_of_table r.sought.table.now) path

-- the edges stand at positions of the table
abbrev pub AreWithin : Rounds → List ℕ → Type 0
AreWithin r path = All (λ i. i < length r.sought.table.now) path

-- rounds can be looked for
pub record HasModels (r : Rounds) : Type 0 where
  pub long : length r.flags.items ≡ length r.sought.table.now
  pub models : CyclesHaveModels (is_before r.sought.order.now) r.sought.mode r.grain r.sought.len
      (edges_of_table r.sought.table.now) r.flags.items
  -- and the index leads through them
  pub indexed : IsIndexOf (edges_of_table r.sought.table.now) r.flags.items r.index
