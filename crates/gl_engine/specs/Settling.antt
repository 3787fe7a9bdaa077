-- What a collector is settled into by the recorders' receipts, after a run or without one.
use Rattle.std.specs.Prelude.{◌≡◌, ℕ, ◌<◌, true, false, List, length, None, Some, slice_get}
use Rattle.std.specs.List.{flat_map}
use Rattle.gl_event.specs.declared.events.Event.{Event}
use Rattle.gl_event.specs.declared.notes.Note.{Note}
use Rattle.gl_edges.specs.Edges.{once, edges}
use Rattle.gl_intake.specs.Stream.{has_ended, logs_of}
use Rattle.gl_shards.specs.Feeds.{AllSent}
use Rattle.gl_engine.specs.Collecting.{Collecting}
use Rattle.gl_engine.specs.Gathering.{Gathering}
use Rattle.gl_engine.specs.Receipts.{has_receipt, AreOwnBelow, IsFirstStrange, IsFirstMissing, AreComplete}
use Rattle.gl_engine.specs.Recording.{Closed, recorded_whole}
use Rattle.gl_engine.specs.declared.gathered.RunFault.{RunFault}
use Rattle.gl_engine.specs.declared.gathered.RunFault.TheVariants as kept
use Rattle.gl_engine.specs.declared.faults.SettleFault.{SettleFault}
use Rattle.gl_engine.specs.declared.faults.SettleFault.TheVariants as fault
use Rattle.gl_engine.specs.declared.faults.UnsettledFault.{UnsettledFault}
use Rattle.gl_engine.specs.declared.faults.UnsettledFault.TheVariants as unsettled

-- the lists are the receipts', thread by thread
pub record AreListsOf (receipts : List Closed) (lists : List (List Event)) : Type 0 where
  pub each : (at : ℕ) (r : Closed) → slice_get receipts at ≡ Some r
      → slice_get lists r.thread ≡ Some (recorded_whole r)
  pub one_each : (thread : ℕ) → thread < length lists → has_receipt receipts thread ≡ true

-- ---- after a run

-- why nothing is settled: the first strange receipt, else the first missing one, with what was gathered as it was; else what went wrong
-- in the run
abbrev pub IsSettleFault : Gathering → List Closed → SettleFault → Type 0
IsSettleFault g receipts (fault.Strange at back) =
    (back ≡ g) × IsFirstStrange g.session g.limits.threads receipts at
IsSettleFault g receipts (fault.Missing thread back) =
    (back ≡ g) × AreOwnBelow g.session g.limits.threads receipts (length receipts)
    × IsFirstMissing g.limits.threads receipts thread
IsSettleFault g receipts fault.Memory =
    AreComplete g.session g.limits.threads receipts × (g.fault ≡ Some kept.Memory)
IsSettleFault g receipts (fault.Gone shard) =
    AreComplete g.session g.limits.threads receipts × (g.fault ≡ Some (kept.Gone shard))
IsSettleFault g receipts (fault.Broken thread refused) =
    AreComplete g.session g.limits.threads receipts × (g.fault ≡ Some (kept.Broken thread refused))

-- the run had no memory, or a worker was gone: what is left to go wrong where all receipts are there
abbrev pub IsMemoryOrGone : SettleFault → Type 0
IsMemoryOrGone (fault.Strange at back) = ⊥
IsMemoryOrGone (fault.Missing thread back) = ⊥
IsMemoryOrGone fault.Memory = Unit {0}
IsMemoryOrGone (fault.Gone shard) = Unit {0}
IsMemoryOrGone (fault.Broken thread refused) = ⊥

-- what settling answers for what went wrong in the run
abbrev pub fault_for : RunFault → SettleFault
fault_for kept.Memory = fault.Memory
fault_for (kept.Gone shard) = fault.Gone shard
fault_for (kept.Broken thread refused) = fault.Broken thread refused

-- the lists are the receipts', and the feeds were sent the edges of these lists, each with its least sample, and no others
pub record IsSettled (receipts : List Closed) (lists : List (List Event)) (sent : List AllSent)
    : Type 0 where
  pub lists_are : AreListsOf receipts lists
  pub edges_are : once (flat_map (λ s. s.sent) sent) ≡ edges lists

-- what was gathered is settled with these receipts into these lists and feeds: the lists are all that was collected, the feeds are those whose
-- edges were all sent, and nothing had gone wrong in the run
pub record IsSettledFrom (g : Gathering) (receipts : List Closed) (all : List (List Event))
    (feeds : List AllSent) : Type 0 where
  pub lists : all ≡ logs_of g.limits.threads g.stream
  pub sent : feeds ≡ g.sent
  pub settled : IsSettled receipts all feeds
  pub whole : g.fault ≡ None

-- ---- without a run

-- the end mark of each of the first threads, up to this one, was collected
abbrev pub HaveEndedBelow : List Note → ℕ → Type 0
HaveEndedBelow stream thread = (t : ℕ) → t < thread → has_ended t stream ≡ true

-- this is the first known thread whose end mark wasn't collected
pub record IsFirstUnended (threads : ℕ) (stream : List Note) (thread : ℕ) : Type 0 where
  pub known : thread < threads
  pub running : has_ended thread stream ≡ false
  pub first : HaveEndedBelow stream thread

-- a collector is settled with these receipts into these lists: they are all that was collected
pub record IsSettledAlone (c : Collecting) (receipts : List Closed) (all : List (List Event))
    : Type 0 where
  pub lists : all ≡ logs_of c.limits.threads c.stream
  pub settled : AreListsOf receipts all

-- why a collector isn't settled: the first strange receipt, else the first missing one, else the first missing end mark. It is as it was
abbrev pub IsUnsettledFault : Collecting → List Closed → UnsettledFault → Type 0
IsUnsettledFault c receipts (unsettled.Strange at back) =
    (back ≡ c) × IsFirstStrange c.session c.limits.threads receipts at
IsUnsettledFault c receipts (unsettled.Missing thread back) =
    (back ≡ c) × AreOwnBelow c.session c.limits.threads receipts (length receipts)
    × IsFirstMissing c.limits.threads receipts thread
IsUnsettledFault c receipts (unsettled.Unended thread back) =
    (back ≡ c) × AreComplete c.session c.limits.threads receipts
    × IsFirstUnended c.limits.threads c.stream thread
