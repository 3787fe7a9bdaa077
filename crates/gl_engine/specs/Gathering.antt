-- What a collector leaves behind that has run.
use Rattle.std.specs.Prelude.{◌≡◌, ◌⊎◌, ℕ, ◌<◌, ◌≤◌, Bool, true, not, List, [], ◌∷◌, ◌++◌, length, map, Option, None, Some, slice_get}
use Rattle.std.specs.List.{filter, position_from}
use mathlib.Core.List.{IsPrefix}
use Rattle.gl_event.specs.Bounds.{Bounds}
use Rattle.gl_event.specs.declared.notes.Note.{Note}
use Rattle.gl_edges.specs.declared.edge.Edge.{Edge}
use Rattle.gl_edges.specs.declared.edge.Sample.{Sample}
use Rattle.gl_intake.specs.Stream.{has_ended, AreInOrder, IsRefusal}
use Rattle.gl_intake.specs.declared.notes.Refused.{Refused}
use Rattle.gl_lane.specs.OwnLanes.{OwnLaneId}
use Rattle.gl_shards.specs.Feeds.{AllSent, FeedId, Sending}
use Rattle.gl_shards.specs.Shards.{shard_of}
use Rattle.gl_shards.specs.declared.shard.TheConstants.{MAX_SHARDS}
use Rattle.gl_engine.specs.Collecting.{Collecting, lanes_of, IsTurn}
use Rattle.gl_engine.specs.Dealing.{dealt, made_by, AreDue}
use Rattle.gl_engine.specs.Receipts.{AreOfRecorders}
use Rattle.gl_engine.specs.Recording.{Closed}
use Rattle.gl_engine.specs.declared.gathered.RunFault.{RunFault}
use Rattle.gl_engine.specs.declared.gathered.RunFault.TheVariants as kept

-- ---- what a run begins with

-- there is an outlet for each shard, 1 to 16 of them
pub record ReachShards (outlets : List Sending) : Type 0 where
  pub some : 1 ≤ length outlets
  pub fit : length outlets ≤ MAX_SHARDS

-- nothing was sent through these outlets, of which there is one for each shard
pub record AreUnused (outlets : List Sending) : Type 0 where
  pub shards : ReachShards outlets
  pub unsent : (shard : ℕ) (o : Sending) → slice_get outlets shard ≡ Some o → o.sent ≡ []

-- ---- what a run leaves

-- a collector that has run: its session and limits, the threads' lanes in the order of thread numbers, the notes collected, the feeds whose
-- edges were all sent, in the order of shards, and what went wrong, if something did
pub record Gathering : Type 0 where
  pub session : ℕ
  pub limits : Bounds
  pub lanes : List OwnLaneId
  pub stream : List Note
  pub sent : List AllSent
  pub fault : Option RunFault

-- each receipt of this session and a known thread is of the thread's recorder
abbrev pub AreOurs : Gathering → List Closed → Type 0
AreOurs g receipts = AreOfRecorders g.session g.limits g.lanes receipts

-- what was gathered is the collector's: of its session, its limits and lanes, and the notes that it had collected come first
pub record IsLeftBy (c : Collecting) (g : Gathering) : Type 0 where
  pub session : g.session ≡ c.session
  pub limits : g.limits ≡ c.limits
  pub lanes : g.lanes ≡ lanes_of c
  pub grown : IsPrefix c.stream g.stream

-- ---- feeds that are ended

-- these feeds were ended in their order, when this had been sent to each; those are kept whose workers were there, and this is the first
-- whose worker wasn't, if there is one
pub record AreEnded (feeds : List FeedId) (sent : List (List (Edge × Sample))) (kept : List AllSent)
    (gone : Option ℕ) : Type 0 where
  -- each with what it was sent, and whether its worker was there
  pub each : List (AllSent × Bool)
  pub feeds_are : map (λ e. e.0.feed) each ≡ feeds
  pub sent_are : map (λ e. e.0.sent) each ≡ sent
  pub kept_are : kept ≡ map (λ e. e.0) (filter (λ e. e.1) each)
  pub first : gone ≡ position_from (λ e. not e.1) 0 each

-- the outlets were ended when these edges had been shipped through them, to each shard its own
abbrev pub AreEndedAfter : List Sending → List (Edge × Sample) → Gathering → Option ℕ → Type 0
AreEndedAfter outlets shipped g gone =
    AreEnded (map (λ o. o.feed) outlets) (dealt (length outlets) shipped) g.sent gone

-- ---- a run without fault

-- all was collected: each thread's notes in order, up to its end mark
pub record HasCollectedAll (g : Gathering) : Type 0 where
  pub in_order : AreInOrder g.limits g.stream
  pub all_ended : (thread : ℕ) → thread < g.limits.threads → has_ended thread g.stream ≡ true

-- all was collected, and shipped: to each feed those of the edges due that are its shard's. No worker was gone
pub record HasShippedAll (spares : Bool) (outlets : List Sending) (g : Gathering) : Type 0 where
  pub collected : HasCollectedAll g
  pub feeds : map (λ s. s.feed) g.sent ≡ map (λ o. o.feed) outlets
  pub due : List (Edge × Sample)
  pub are_due : AreDue spares (made_by g.stream) due
  pub shipped : map (λ s. s.sent) g.sent ≡ dealt (length outlets) due

-- ---- a worker that is gone

-- of the edges due these were shipped, and the next one could not be: it is this shard's
pub record IsStoppedAt (shards : ℕ) (due shipped : List (Edge × Sample)) (shard : ℕ) : Type 0 where
  pub next : Edge × Sample
  pub rest : List (Edge × Sample)
  pub parts : due ≡ shipped ++ next ∷ rest
  pub whose : shard ≡ shard_of next.0 shards

-- the shard's worker was gone when an edge was to be shipped to it: the first of the edges due that wasn't. Then the feeds were ended
pub record IsGoneShipping (spares : Bool) (outlets : List Sending) (g : Gathering)
    (shard : ℕ) : Type 0 where
  pub due : List (Edge × Sample)
  pub are_due : AreDue spares (made_by g.stream) due
  pub shipped : List (Edge × Sample)
  pub stopped : IsStoppedAt (length outlets) due shipped shard
  pub gone : Option ℕ
  pub ended : AreEndedAfter outlets shipped g gone

-- all was collected and shipped, and the shard's worker was the first that was gone when its feed was to be ended
pub record IsGoneEnding (spares : Bool) (outlets : List Sending) (g : Gathering)
    (shard : ℕ) : Type 0 where
  pub collected : HasCollectedAll g
  pub due : List (Edge × Sample)
  pub are_due : AreDue spares (made_by g.stream) due
  pub ended : AreEndedAfter outlets due g (Some shard)

-- the run through these outlets found the shard's worker gone, at the edge that it could not ship, or else at the end of the feed
abbrev pub IsFoundGone : Bool → List Sending → Gathering → ℕ → Type 0
IsFoundGone spares outlets g shard =
    IsGoneShipping spares outlets g shard ⊎ IsGoneEnding spares outlets g shard

-- ---- a turn that went wrong

-- the run stopped in a turn of the thread: the edges of all notes before the turn that are due were shipped, and none of the notes that the turn
-- had pulled, 64 at most. Then the feeds were ended. The turn came after all pulls before the run
pub record IsStoppedInTurn (spares : Bool) (c : Collecting) (outlets : List Sending)
    (g : Gathering) (thread : ℕ) : Type 0 where
  pub before : List Note
  pub later : IsPrefix c.stream before
  pub turn : IsTurn 64 thread before g.stream
  pub due : List (Edge × Sample)
  pub are_due : AreDue spares (made_by before) due
  pub gone : Option ℕ
  pub ended : AreEndedAfter outlets due g gone

-- after all that was collected came a note of this known thread that may not come next, for this reason, in a turn of the thread
pub record IsFoundBroken (spares : Bool) (c : Collecting) (outlets : List Sending) (g : Gathering)
    (thread : ℕ) (why : Refused) : Type 0 where
  pub known : thread < g.limits.threads
  pub note : Note
  pub whose : note.thread ≡ thread
  pub refused : IsRefusal g.limits g.stream note why
  pub stopped : IsStoppedInTurn spares c outlets g thread

-- the run could not begin: nothing was collected, and no feed is kept
pub record HasNotBegun (c : Collecting) (g : Gathering) : Type 0 where
  pub none_collected : g.stream ≡ c.stream
  pub none_kept : g.sent ≡ []

-- there was no memory for the run to begin, or for a turn of some thread
abbrev pub IsFoundShort : Bool → Collecting → List Sending → Gathering → Type 0
IsFoundShort spares c outlets g =
    HasNotBegun c g ⊎ ((thread : ℕ) × IsStoppedInTurn spares c outlets g thread)

-- ---- how a run went

-- the collector has run through these outlets, and has shipped all edges made or spared repeats, and left this: all was collected and shipped, or
-- it is told what went wrong first, and what was collected and shipped until then
pub record HasRunThrough (spares : Bool) (c : Collecting) (outlets : List Sending)
    (g : Gathering) : Type 0 where
  pub left : IsLeftBy c g
  pub whole : g.fault ≡ None → HasShippedAll spares outlets g
  pub short : g.fault ≡ Some kept.Memory → IsFoundShort spares c outlets g
  pub gone : (shard : ℕ) → g.fault ≡ Some (kept.Gone shard) → IsFoundGone spares outlets g shard
  pub broken : (thread : ℕ) (why : Refused) → g.fault ≡ Some (kept.Broken thread why)
      → IsFoundBroken spares c outlets g thread why
