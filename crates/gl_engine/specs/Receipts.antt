-- Which receipts a session wants: of a session's number, its number of threads and their lanes.
use Rattle.std.specs.Prelude.{◌≡◌, ◌==◌, ◌||◌, ℕ, ◌<◌, Bool, true, false, List, length, take, Some, slice_get, nat_le, not}
use Rattle.std.specs.List.{list_any}
use Rattle.gl_event.specs.Bounds.{Bounds}
use Rattle.gl_lane.specs.OwnLanes.{OwnLaneId}
use Rattle.gl_engine.specs.Recording.{Closed}

-- one of the receipts is of this thread
unfoldable pub has_receipt : List Closed → ℕ → Bool
has_receipt receipts thread = list_any (λ r. r.thread == thread) receipts

-- the receipt is of another session, of an unknown thread, or of a thread that one of those before is of
unfoldable pub is_strange : ℕ → ℕ → List Closed → Closed → Bool
is_strange session threads before r =
    not (r.session == session) || (nat_le threads r.thread || has_receipt before r.thread)

-- each receipt of this session and a known thread is of the thread's recorder: it has the other end of its lane
abbrev pub AreOfRecorders : ℕ → Bounds → List OwnLaneId → List Closed → Type 0
AreOfRecorders session limits lanes receipts =
    (at : ℕ) (r : Closed) → slice_get receipts at ≡ Some r → r.session ≡ session
    → (lane : OwnLaneId) → slice_get lanes r.thread ≡ Some lane
    → (r.lane ≡ lane) × (r.limits ≡ limits)

-- none of the first receipts, up to this place, is strange
abbrev pub AreOwnBelow : ℕ → ℕ → List Closed → ℕ → Type 0
AreOwnBelow session threads receipts at =
    (i : ℕ) (r : Closed) → i < at → slice_get receipts i ≡ Some r
    → is_strange session threads (take i receipts) r ≡ false

-- each of the first threads, up to this one, has a receipt
abbrev pub AreThereBelow : List Closed → ℕ → Type 0
AreThereBelow receipts thread = (t : ℕ) → t < thread → has_receipt receipts t ≡ true

-- the receipt at this place is the first that is strange
pub record IsFirstStrange (session threads : ℕ) (receipts : List Closed) (at : ℕ) : Type 0 where
  pub receipt : Closed
  pub here : slice_get receipts at ≡ Some receipt
  pub strange : is_strange session threads (take at receipts) receipt ≡ true
  pub first : AreOwnBelow session threads receipts at

-- this is the first known thread of which there is no receipt
pub record IsFirstMissing (threads : ℕ) (receipts : List Closed) (thread : ℕ) : Type 0 where
  pub known : thread < threads
  pub missing : has_receipt receipts thread ≡ false
  pub first : AreThereBelow receipts thread

-- there is one receipt of each known thread, and no other
pub record AreComplete (session threads : ℕ) (receipts : List Closed) : Type 0 where
  pub own : AreOwnBelow session threads receipts (length receipts)
  pub all : AreThereBelow receipts threads
