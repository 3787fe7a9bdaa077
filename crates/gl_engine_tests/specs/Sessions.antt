-- Sessions whose threads have closed, and which receipts they can be settled with.
use Rattle.std.specs.Prelude.{◌≡◌, ℕ, Bool, true, List, map, Some, None, slice_get}
use Rattle.gl_event.specs.Bounds.{Bounds}
use Rattle.gl_lane.specs.OwnLanes.{OwnLaneId}
use Rattle.gl_shards.specs.Feeds.{AllSent, Receiving}
use Rattle.gl_engine.specs.Recording.{Closed}
use Rattle.gl_engine.specs.Collecting.{Collecting, lanes_of}
use Rattle.gl_engine.specs.Gathering.{Gathering, AreOurs}

-- the receipt is that of the thread's recorder in a session of this number, limits and lanes, or another session's
abbrev pub IsOurs : ℕ → Bounds → List OwnLaneId → Closed → Type 0
IsOurs session limits lanes r =
    r.session ≡ session → (lane : OwnLaneId) → slice_get lanes r.thread ≡ Some lane
    → (r.lane ≡ lane) × (r.limits ≡ limits)

-- each receipt is that of a thread's recorder in the collector's session, or another session's
abbrev pub AreOursOf : Collecting → List Closed → Type 0
AreOursOf c receipts =
    (at : ℕ) (r : Closed) → slice_get receipts at ≡ Some r
    → IsOurs c.session c.limits (lanes_of c) r

-- a session of this number that has run: it can be settled with the receipts, and with those put aside, and where there is somebody to serve
-- the feeds, these are all that was sent
pub record IsSession (number : ℕ) (g : Gathering) (receipts aside : List Closed)
    (inlets : List Receiving) (served : Bool) : Type 0 where
  pub numbered : g.session ≡ number
  pub ours : AreOurs g receipts
  pub ours_aside : AreOurs g aside
  pub feeds : served ≡ true → g.fault ≡ None
      → map (λ (s : AllSent). s.feed) g.sent ≡ map (λ (i : Receiving). i.feed) inlets

-- a session of number 7 that is settled without a run, of so many threads: it can be settled with the receipts
pub record IsUnrun (threads : ℕ) (c : Collecting) (receipts : List Closed) : Type 0 where
  pub numbered : c.session ≡ 7
  pub count : c.limits.threads ≡ threads
  pub ours : AreOursOf c receipts

-- the collector is of the same session
pub record IsSameSession (old new : Collecting) : Type 0 where
  pub session : new.session ≡ old.session
  pub limits : new.limits ≡ old.limits
  pub lanes : lanes_of new ≡ lanes_of old
