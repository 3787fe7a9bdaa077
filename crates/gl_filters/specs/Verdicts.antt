-- What a list of edges is, as a cycle: the first fault that it has, or that it has none.
use Rattle.std.specs.Prelude.{◌≡◌, ℕ, ◌+◌, ◌<◌, ◌≤◌, Bool, true, false, ◌==◌, if◌then◌else◌, List, length, slice_get, Some}
use Rattle.gl_event.specs.declared.events.Segment.{Segment}
use Rattle.gl_edges.specs.declared.edge.Edge.{Edge}
use Rattle.gl_filters.specs.Asked.{Asked}
use Rattle.gl_filters.specs.Cycle.{asks_guards, asks_order, is_ordered, LeadsOn, HasGate}
use Rattle.gl_edges.specs.Clashes.{guards_clash}
use Rattle.gl_filters.specs.declared.verdict.Verdict.{Verdict}
use Rattle.gl_filters.specs.declared.verdict.Verdict.TheVariants.{TooShort, TooLong, NotClosed, SameLock, SameThread, NotLeast, SharedGuard, Ordered, Valid}

-- why two edges can't stand in one cycle: they hold one lock, are of one thread, or have a gate lock; or they are ordered
abbrev pub hold_one_lock : Edge → Edge → Bool
hold_one_lock e f = e.held == f.held

abbrev pub are_of_one_thread : Edge → Edge → Bool
are_of_one_thread e f = e.thread == f.thread

abbrev pub have_gate_lock : Edge → Edge → Bool
have_gate_lock e f = guards_clash e.guards f.guards

-- the edge at place i clashes with none of those at the later places below n
abbrev pub IsFree : (Edge → Edge → Bool) → List Edge → ℕ → ℕ → Type 0
IsFree clash es i n =
    (j : ℕ) (e f : Edge) → i < j → j < n → slice_get es i ≡ Some e → slice_get es j ≡ Some f
    → clash e f ≡ false

-- no two edges clash
abbrev pub NoPair : (Edge → Edge → Bool) → List Edge → Type 0
NoPair clash es = (i : ℕ) → i < length es → IsFree clash es i (length es)

-- the edge at place j is the first after place i that clashes with the one at place i
pub record IsFirstAfter (clash : Edge → Edge → Bool) (es : List Edge) (i j : ℕ) : Type 0 where
  pub one : Edge
  pub other : Edge
  pub later : i < j
  pub at_one : slice_get es i ≡ Some one
  pub at_other : slice_get es j ≡ Some other
  pub clashing : clash one other ≡ true
  pub free_between : IsFree clash es i j

-- the edges at these places clash; the first place is the least that has a clash after it, and the second is the first clash after that
abbrev pub IsFirstPair : (Edge → Edge → Bool) → List Edge → ℕ → ℕ → Type 0
IsFirstPair clash es i j =
    IsFirstAfter clash es i j × ((k : ℕ) → k < i → IsFree clash es k (length es))

-- the place after i, round
abbrev pub following : ℕ → ℕ → ℕ
following n i = if i + 1 == n then 0 else i + 1

-- the edge at place i leads on to the next one, round
abbrev pub IsClosedAt : List Edge → ℕ → Type 0
IsClosedAt es i =
    (e f : Edge) → slice_get es i ≡ Some e → slice_get es (following (length es) i) ≡ Some f
    → LeadsOn e f

-- the edge at place i is the first that does not lead on to the next one
pub record IsFirstOpen (es : List Edge) (i : ℕ) : Type 0 where
  pub one : Edge
  pub next : Edge
  pub at_one : slice_get es i ≡ Some one
  pub at_next : slice_get es (following (length es) i) ≡ Some next
  pub open_here : ¬ LeadsOn one next
  pub closed_before : (k : ℕ) → k < i → IsClosedAt es k

-- the edge at place i has no lesser thread than the first
abbrev pub IsNotLesserAt : List Edge → ℕ → Type 0
IsNotLesserAt es i =
    (e f : Edge) → slice_get es 0 ≡ Some e → slice_get es i ≡ Some f → e.thread ≤ f.thread

-- the edge at place i is the first with a lesser thread than the first edge
pub record IsFirstLesser (es : List Edge) (i : ℕ) : Type 0 where
  pub first : Edge
  pub lesser : Edge
  pub at_first : slice_get es 0 ≡ Some first
  pub at_lesser : slice_get es i ≡ Some lesser
  pub below : lesser.thread < first.thread
  pub none_before : (k : ℕ) → k < i → IsNotLesserAt es k

-- the least lock that is a gate of the edges at both places
abbrev pub IsLeastShared : List Edge → ℕ → ℕ → ℕ → Type 0
IsLeastShared es i j lock = (e f : Edge) → slice_get es i ≡ Some e → slice_get es j ≡ Some f
    → HasGate e.guards f.guards lock
    × ((other : ℕ) → HasGate e.guards f.guards other → lock ≤ other)

module _ (before : Segment → Segment → Bool) (asked : Asked) (es : List Edge) where
  -- what holds where the tests before each one have passed
  abbrev pub HasLength : Type 0
  HasLength = (2 ≤ length es) × (length es ≤ asked.len)

  abbrev pub IsClosed : Type 0
  IsClosed = HasLength × ((i : ℕ) → i < length es → IsClosedAt es i)

  abbrev pub HasLocks : Type 0
  HasLocks = IsClosed × NoPair hold_one_lock es

  abbrev pub HasThreads : Type 0
  HasThreads = HasLocks × NoPair are_of_one_thread es

  abbrev pub IsLeast : Type 0
  IsLeast = HasThreads × ((i : ℕ) → i < length es → IsNotLesserAt es i)

  abbrev pub IsApart : Type 0
  IsApart = IsLeast × (asks_guards asked.mode ≡ true → NoPair have_gate_lock es)

  abbrev pub IsUnordered : Type 0
  IsUnordered = IsApart × (asks_order asked.mode ≡ true → NoPair (is_ordered before) es)

  -- the verdict names the first fault
  abbrev pub IsVerdict : Verdict → Type 0
  IsVerdict TooShort = length es < 2
  IsVerdict TooLong = (2 ≤ length es) × (asked.len < length es)
  IsVerdict (NotClosed i) = HasLength × IsFirstOpen es i
  IsVerdict (SameLock i j) = IsClosed × IsFirstPair hold_one_lock es i j
  IsVerdict (SameThread i j) = HasLocks × IsFirstPair are_of_one_thread es i j
  IsVerdict (NotLeast i) = HasThreads × IsFirstLesser es i
  IsVerdict (SharedGuard i j lock) =
      IsLeast × (asks_guards asked.mode ≡ true) × IsFirstPair have_gate_lock es i j
      × IsLeastShared es i j lock
  IsVerdict (Ordered i j) =
      IsApart × (asks_order asked.mode ≡ true) × IsFirstPair (is_ordered before) es i j
  IsVerdict Valid = IsUnordered
