-- What becomes of a text that a session records as it is read.
use Rattle.std.specs.Prelude.{◌≡◌, ◌⊎◌, ℕ, Bool, List, [], Result, Ok, Err}
use Rattle.gl_event.specs.Bounds.{Bounds}
use Rattle.gl_io.specs.Positions.{Position}
use Rattle.gl_io.specs.Uses.{SourceUse, used}
use Rattle.gl_segments.specs.Segments.{IsLeastInRing}
use Rattle.gl_filters.specs.Asked.{Asked}
use Rattle.gl_edges.specs.Edges.{edges}
use Rattle.gl_cycles.specs.declared.found.Report.{Report}
use Rattle.gl_findings.specs.Reports.{IsReportWith}
use Rattle.gl_findings.specs.declared.listing.Contents.{Contents}
use Rattle.gl_std.specs.Streaming.{HasFault, HasTold, IsDone, Stream}
use Rattle.gl_std.specs.Trace.{nothing}
use Rattle.gl_std.specs.declared.trace.Trace.{Trace}
use Rattle.gl_live.specs.declared.faults.LiveFault.TheVariants.{Inconsistent, Memory, Unconfirmed}
use Rattle.gl_live.specs.declared.faults.StreamFault.{StreamFault}
use Rattle.gl_live.specs.declared.faults.StreamFault.TheVariants.{Text, Session}

-- none of a text's items was asked for yet, under a limit of so many threads
pub record IsUnread (threads : ℕ) (now : Position) (failed : Bool) (items : Stream) : Type 0 where
  pub limits : Bounds
  pub turns : ℕ
  pub start : Position
  pub as_many : limits.threads ≡ threads
  pub tells : HasTold limits turns (used start now failed) items [] nothing

-- why there is no report where the items told this trace: the fault that they answered; or all was told, and a segment is before itself; or
-- memory was refused, or the session isn't confirmed
abbrev pub IsStreamFault : Stream → Trace → StreamFault → Type 0
IsStreamFault items told (Text fault) = HasFault items fault
IsStreamFault items told (Session (Inconsistent at ring)) =
    IsDone items × IsLeastInRing told.lists at ring.items
IsStreamFault items told (Session Memory) = Unit {0}
IsStreamFault items told (Session Unconfirmed) = Unit {0}

-- a session fails before any of a text was read, or once all of it was told: what the source had left is what it has left, or the end was
-- answered
abbrev pub FailsInTime : {Y : Type 0} → Position → Position → Stream → Result Y StreamFault → Type 0
FailsInTime old new items (Ok y) = Unit {0}
FailsInTime old new items (Err (Text fault)) = Unit {0}
FailsInTime old new items (Err (Session fault)) = (new ≡ old) ⊎ IsDone items

-- the report of all that was told, with these contents, or why there is none
abbrev pub IsReportOfTold : Contents → Asked → Stream → Trace → Result Report StreamFault → Type 0
IsReportOfTold contents asked items told (Ok report) =
    IsDone items × IsReportWith contents asked (edges told.lists) told.lists report
IsReportOfTold contents asked items told (Err fault) = IsStreamFault items told fault

-- the reads gave a text, and the items told a trace of it, of which this is the report
pub record Becomes (contents : Contents) (asked : Asked) (limits : Bounds) (turns : ℕ)
    (input : SourceUse) (items : Stream) (result : Result Report StreamFault) : Type 0 where
  pub text : List ℕ
  pub told : Trace
  pub tells : HasTold limits turns input items text told
  pub reports : IsReportOfTold contents asked items told result
