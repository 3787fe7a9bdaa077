-- What a session leaves that has recorded a text, and its report.
use Rattle.std.proofs.Common.{◌≡◌, ◌∙◌, ℕ, ◌+◌, ◌-◌, List, [], length, Ok, Err, sym, subst, arith}
use Rattle.std.specs.List.{All}
use Rattle.std.proofs.lemmas.List.Elements.{All-nil}
use Rattle.gl_event.specs.Bounds.{Bounds}
use Rattle.gl_event.specs.declared.events.Event.{Event}
use Rattle.gl_event.specs.declared.events.Event.TheVariants.{Fork, Join}
use Rattle.gl_io.specs.Positions.{Position}
use Rattle.gl_io.specs.Uses.{SourceUse}
use Rattle.gl_filters.specs.Asked.{Asked}
use Rattle.gl_edges.specs.Edges.{edges}
use Rattle.gl_cycles.specs.declared.found.Report.{Report}
use Rattle.gl_findings.specs.Reports.{IsReportWith}
use Rattle.gl_findings.specs.declared.listing.Contents.{Contents}
use Rattle.gl_shards.specs.Feeds.{Sending}
use Rattle.gl_std.specs.Streaming.{HasTold, HasToldAt, IsDone, Stream}
use Rattle.gl_std.specs.Trace.{nothing, IsNamed, IsTraceOver}
use Rattle.gl_std.specs.declared.faults.LinesFault.{LinesFault}
use Rattle.gl_std.specs.declared.trace.Trace.{Trace}
use Rattle.gl_std.proofs.WithinLimits.{trace_of_over}
use Rattle.gl_engine.specs.Collecting.{Collecting}
use Rattle.gl_engine.specs.Gathering.{Gathering}
use Rattle.gl_engine.specs.Recording.{Recording, Closed}
use Rattle.gl_live.specs.Faults.{IsLiveFault}
use Rattle.gl_live.specs.Streamed.{Becomes, FailsInTime, IsStreamFault}
use Rattle.gl_live.specs.bodies.Padded.{padded, HaveAll}
use Rattle.gl_live.specs.bodies.Rosters.{Roster, roster_of, gathered_from, AreReceipts, IsReceiptOf}
use Rattle.gl_live.specs.bodies.Streams.{AreRecorded, HaveKeptUp, HasGathered, HasStreamed, HasTaken, Stops}
use Rattle.gl_live.specs.declared.faults.LiveFault.{LiveFault}
use Rattle.gl_live.specs.declared.faults.LiveFault.TheVariants.{Inconsistent, Memory, Unconfirmed}
use Rattle.gl_live.specs.declared.faults.StreamFault.{StreamFault}
use Rattle.gl_live.specs.declared.faults.StreamFault.TheVariants.{Text, Session}
use Rattle.gl_live.specs.declared.run.Ran.{Ran}
use Rattle.gl_live.proofs.Following.{all_taken, long}
use Rattle.gl_live.proofs.Leaving.{all_get, receipts_gathered}
use Rattle.gl_live.proofs.Padding.{least_only, report_only}
use Rattle.gl_live.proofs.Rostered.{all_same}

-- nothing was read
pub begins : (c : Collecting) (limits : Bounds) (turns : ℕ) (input : SourceUse) (items : Stream) (recorders : List Recording) → AreRecorded (roster_of c) [] recorders → HasTold limits turns input items [] nothing → HaveKeptUp (roster_of c) limits turns input items recorders
begins c limits turns input items recorders unused told = record { text = []; told = nothing; tells = told; recorded = unused }

-- what was gathered of the session that its collector's thread was given
pub has_gathered : (own c : Collecting) (its outlets : List Sending) (g : Gathering) → own ≡ c → its ≡ outlets → HasGathered own its g → HasGathered c outlets g
has_gathered own c its outlets g same alike is = subst (λ os. HasGathered c os g) alike (subst (λ (x : Collecting). HasGathered x its g) same is)

-- all was recorded
pub streamed : (limits : Bounds) (turns : ℕ) (input : SourceUse) (threads : ℕ) (items : Stream) (c : Collecting) (outlets : List Sending) (recorders : List Recording) (before : List Closed) (ran : Ran)
    → HasGathered c outlets ran.gathered → before ≡ [] → length recorders ≡ threads → IsDone items
    → ((s : Roster) (lists : List (List Event)) → All (HasTaken s lists) recorders → All (IsReceiptOf s lists) before → All (IsReceiptOf s lists) ran.receipts.items)
    → HaveKeptUp (roster_of c) limits turns input items recorders → HasStreamed limits turns input threads items (Ok ran)
streamed limits turns input threads items c outlets recorders before ran gathered none count done closed follows =
    let lists = follows.told.lists in record {
      text = follows.text;
      told = follows.told;
      tells = follows.tells;
      leaves = (
        done,
        λ more is.
            receipts_gathered ran.gathered c (padded more lists) ran.receipts.items gathered.session gathered.limits gathered.lanes
            (closed (roster_of c) (padded more lists) (all_taken (roster_of c) lists recorders more (count ∙ is) follows.recorded) (all_same none (IsReceiptOf (roster_of c) (padded more lists)) (All-nil _))),
      );
    }

-- not all was
pub unstreamed : (limits : Bounds) (turns : ℕ) (input : SourceUse) (threads : ℕ) (items : Stream) (fault : LinesFault) → Stops limits turns input items fault → HasStreamed limits turns input threads items (Err (Text fault))
unstreamed limits turns input threads items fault stops = record { text = stops.text; told = stops.told; tells = stops.tells; leaves = stops.why }

-- ---- the report

-- what holds of the trace where the end was answered
over : (limits : Bounds) (turns : ℕ) (input : SourceUse) (items : Stream) (text : List ℕ) (told : Trace) → IsDone items → HasTold limits turns input items text told → IsTraceOver limits told
over limits turns input items text told done tells =
    let at = subst (λ stage. HasToldAt stage limits turns input items.reader text told) done tells in
    trace_of_over limits text told at.1

have_all : (limits : Bounds) (told : Trace) → IsTraceOver limits told → HaveAll told.lists
have_all limits told is =
    record {
      forked = λ thread es place other loc list event.
          (let named = all_get (IsNamed told.names) es place (Fork other loc) event (is.named thread es list) in
          omega (arith, named.0, is.one_list_each));
      joined = λ thread es place other loc list event.
          (let named = all_get (IsNamed told.names) es place (Join other loc) event (is.named thread es list) in
          omega (arith, named.0, is.one_list_each));
    }

-- so the receipts are of the session
pub ours_streamed : (limits : Bounds) (turns : ℕ) (input : SourceUse) (threads : ℕ) (items : Stream) (ran : Ran) → limits.threads ≡ threads → HasStreamed limits turns input threads items (Ok ran) → AreReceipts (gathered_from ran.gathered) ran.receipts.items
ours_streamed limits turns input threads items ran many of =
    let its = over limits turns input items of.text of.told of.leaves.0 of.tells in
    let more = threads - length of.told.lists in
    record { lists = padded more of.told.lists; each = of.leaves.1 more (omega (arith, many, its.one_list_each, its.threads_fit)) }

module _ (limits : Bounds) (turns : ℕ) (input : SourceUse) (items : Stream) where
  module _ (ran : Ran) (threads : ran.gathered.limits.threads ≡ limits.threads) (of : HasStreamed limits turns input limits.threads items (Ok ran)) where
    its : IsTraceOver limits of.told
    its = over limits turns input items of.text of.told of.leaves.0 of.tells

    abbrev more : ℕ
    more = limits.threads - length of.told.lists

    fits : limits.threads ≡ length of.told.lists + more
    fits = omega (arith, its.one_list_each, its.threads_fit)

    -- what is concluded of the lists and of the empty ones after them
    concluded : (P : List (List Event) → Type 0) → ((lists : List (List Event)) → ran.gathered.limits.threads ≡ length lists → All (IsReceiptOf (gathered_from ran.gathered) lists) ran.receipts.items → P lists) → P (padded more of.told.lists)
    concluded P each = each (padded more of.told.lists) (threads ∙ fits ∙ sym (long more of.told.lists)) (of.leaves.1 more fits)

    pub becomes_report : (contents : Contents) (asked : Asked) (report : Report)
        → ((lists : List (List Event)) → ran.gathered.limits.threads ≡ length lists → All (IsReceiptOf (gathered_from ran.gathered) lists) ran.receipts.items → IsReportWith contents asked (edges lists) lists report)
        → Becomes contents asked limits turns input items (Ok report)
    becomes_report contents asked report each =
        record {
          text = of.text;
          told = of.told;
          tells = of.tells;
          reports = (of.leaves.0, report_only more of.told.lists (have_all limits of.told its) contents asked report (concluded (λ lists. IsReportWith contents asked (edges lists) lists report) each));
        }

    fault_only : (fault : LiveFault) → IsLiveFault (padded more of.told.lists) fault → IsLiveFault of.told.lists fault
    fault_only (Inconsistent at ring) is = least_only more of.told.lists (have_all limits of.told its) at ring.items is
    fault_only Memory is = tt
    fault_only Unconfirmed is = tt

    session_fault : (fault : LiveFault) → IsLiveFault of.told.lists fault → IsStreamFault items of.told (Session fault)
    session_fault (Inconsistent at ring) is = (of.leaves.0, is)
    session_fault Memory is = tt
    session_fault Unconfirmed is = tt

    pub becomes_fault : (contents : Contents) (asked : Asked) (fault : LiveFault)
        → ((lists : List (List Event)) → ran.gathered.limits.threads ≡ length lists → All (IsReceiptOf (gathered_from ran.gathered) lists) ran.receipts.items → IsLiveFault lists fault) → Becomes contents asked limits turns input items (Err (Session fault))
    becomes_fault contents asked fault each =
        record { text = of.text; told = of.told; tells = of.tells; reports = session_fault fault (fault_only fault (concluded (λ lists. IsLiveFault lists fault) each)) }

  pub becomes_stopped : (contents : Contents) (asked : Asked) (threads : ℕ) (fault : StreamFault) → HasStreamed limits turns input threads items (Err fault) → Becomes contents asked limits turns input items (Err fault)
  becomes_stopped contents asked threads fault of = record { text = of.text; told = of.told; tells = of.tells; reports = of.leaves }

-- ---- when it fails

-- a fault comes in time whatever else might have been answered
pub still_in_time : (X Z : Type 0) (old new : Position) (items : Stream) (fault : StreamFault) → FailsInTime {Y = X} old new items (Err fault) → FailsInTime {Y = Z} old new items (Err fault)
still_in_time X Z old new items (Text fault) is = tt
still_in_time X Z old new items (Session fault) is = is
