-- What pulls change of a session.
use Rattle.std.specs.Prelude.{◌≡◌, ℕ, ◌+◌, ◌<◌, ◌≤◌, ◌==◌, not, List, [], ◌∷◌, ◌++◌, Option, Some, None, count_by, option_and_then, slice_get, All, AllPairs, IsSome}
use Rattle.gl_event.specs.declared.notes.Note.{Note}
use Rattle.gl_intake.specs.Stream.{is_end}
use Rattle.gl_intake.specs.declared.notes.Refused.{Refused}
use Rattle.gl_engine.specs.Collecting.{Collecting, lanes_of}
use Rattle.gl_c.specs.Calls.{IsOneOf}
use Rattle.gl_c.specs.declared.codes.TheConstants.{OK, MEMORY, MISUSE, RANGE, BROKEN}
use Rattle.gl_c.specs.declared.pulling.PulledCount.{PulledCount}
use Rattle.gl_c.specs.declared.session_state.Running.{Running}
use Rattle.gl_c.specs.declared.session_state.SessionState.{SessionState}
use Rattle.gl_c.specs.declared.session_state.Stage.{Stage}
use Rattle.gl_c.specs.declared.session_state.Stage.TheVariants.{Running as Runs, Settled as HasSettled, Gone}

-- nothing was pulled
abbrev pub none_pulled : PulledCount
none_pulled = record { events = 0; ended = 0 }

-- both counts together
abbrev pub both : PulledCount → PulledCount → PulledCount
both a b = record { events = a.events + b.events; ended = a.ended + b.ended }

-- how many of the notes tell events, and how many are end marks
abbrev pub counted : List Note → PulledCount
counted notes =
    record {
      events = count_by (λ note. not (is_end note.body)) notes;
      ended = count_by (λ note. is_end note.body) notes;
    }

-- what collects has the number, the limits and the lanes that it had
pub record IsStillThat (old new : Collecting) : Type 0 where
  pub limits : new.limits ≡ old.limits
  pub session : new.session ≡ old.session
  pub lanes : lanes_of new ≡ lanes_of old

-- notes were pulled, which follow those collected before; so many of them tell events, and so many are end marks
pub record ArePulled (AreTheirs : List Note → Type 0) (old new : Collecting)
    (count : PulledCount) : Type 0 where
  pub still : IsStillThat old new
  pub notes : List Note
  pub theirs : AreTheirs notes
  pub joined : new.stream ≡ old.stream ++ notes
  pub count_is : count ≡ counted notes

-- the notes are the thread's
abbrev pub AreOfThread : ℕ → List Note → Type 0
AreOfThread thread notes = All (λ note. note.thread ≡ thread) notes

-- why the thread's lane is broken, if it is: its front note may not come next
abbrev pub broken_at : Collecting → ℕ → Option Refused
broken_at c thread = option_and_then (λ input. input.broken) (slice_get c.inputs thread)

-- a lane that was broken stays so
abbrev pub StayBroken : Collecting → Collecting → Type 0
StayBroken old new =
    (thread : ℕ) (why : Refused) → broken_at old thread ≡ Some why → broken_at new thread ≡ Some why

-- no other thread's lane breaks
abbrev pub AreOthersSame : ℕ → Collecting → Collecting → Type 0
AreOthersSame thread old new =
    (other : ℕ) → (other ≡ thread → ⊥) → broken_at new other ≡ broken_at old other

-- how pulls off the thread's lane end: all is well, memory was refused, or the lane is broken. Where none was asked for, its lane isn't looked at
pub record IsLaneEnd (thread most : ℕ) (now : Collecting) (answer : ℕ) : Type 0 where
  pub answers : IsOneOf answer (OK ∷ MEMORY ∷ BROKEN ∷ [])
  pub broken : answer ≡ BROKEN → IsSome (broken_at now thread)
  pub whole : (answer ≡ BROKEN → ⊥) → 0 < most → broken_at now thread ≡ None

-- pulls off all lanes stopped at this thread's: memory was refused there, or its lane is broken. No lane before it is; nothing was
-- pulled off those behind it, and they weren't looked at
pub record IsStopAt (thread : ℕ) (old now : Collecting) (count : PulledCount)
    (answer : ℕ) : Type 0 where
  pub known : thread < old.limits.threads
  pub ends : IsLaneEnd thread 1 now answer
  pub ahead : (other : ℕ) → other < thread → broken_at now other ≡ None
  pub pulled : ArePulled (All (λ note. note.thread ≤ thread)) old now count
  pub behind : (other : ℕ) → thread < other → broken_at now other ≡ broken_at old other

-- how pulls off all lanes end: no lane is broken, or as many notes were pulled as were asked for; or they stopped at a lane
pub record IsEndOfAll (most : ℕ) (old now : Collecting) (count : PulledCount)
    (answer : ℕ) : Type 0 where
  pub answers : IsOneOf answer (OK ∷ MEMORY ∷ BROKEN ∷ [])
  pub whole : answer ≡ OK → count.events + count.ended < most → (thread : ℕ)
      → broken_at now thread ≡ None
  pub stopped : (answer ≡ OK → ⊥) → (thread : ℕ) × IsStopAt thread old now count answer

-- one of the thread's notes was pulled
pub record IsOnePull (thread : ℕ) (old : Collecting) (one : PulledCount)
    (new : Collecting) : Type 0 where
  pub pulled : ArePulled (AreOfThread thread) old new one
  pub is_one : one.events + one.ended ≡ 1
  pub whole : broken_at new thread ≡ None
  pub others : AreOthersSame thread old new
  pub stay : StayBroken old new

-- none of them was, for this reason
pub record IsNoPull (thread : ℕ) (old : Collecting) (answer : ℕ) (new : Collecting) : Type 0 where
  pub none : ArePulled (AreOfThread thread) old new none_pulled
  pub ends : IsLaneEnd thread 1 new answer
  pub others : AreOthersSame thread old new
  pub stay : StayBroken old new

-- notes of each thread in turn, from the first one on, of none more than a ring holds
pub record AreInTurns (ring : ℕ) (notes : List Note) : Type 0 where
  pub in_turn : AllPairs (λ a b. a.thread ≤ b.thread) notes
  pub none_more : (thread : ℕ) → count_by (λ note. note.thread == thread) notes ≤ ring

-- the same of the first threads, up to this one
pub record AreInTurnsBelow (ring number : ℕ) (notes : List Note) : Type 0 where
  pub in_turns : AreInTurns ring notes
  pub below : All (λ note. note.thread < number) notes

-- at most so many such notes were pulled. No broken lane is mended
pub record ArePulls (AreTheirs : List Note → Type 0) (most : ℕ) (old : Running)
    (count : PulledCount) (new : Running) : Type 0 where
  pub limits : new.limits ≡ old.limits
  pub pulled : ArePulled AreTheirs old.collector new.collector count
  pub most_are : count.events + count.ended ≤ most
  pub stay : StayBroken old.collector new.collector

-- at most so many notes were pulled off the thread's lane, and fewer where it doesn't end well
pub record IsPullOff (thread most : ℕ) (old : Running) (count : PulledCount) (answer : ℕ)
    (new : Running) : Type 0 where
  pub moved : ArePulls (AreOfThread thread) most old count new
  pub fewer : (answer ≡ OK → ⊥) → count.events + count.ended < most
  pub ends : IsLaneEnd thread most new.collector answer
  pub others : AreOthersSame thread old.collector new.collector

-- at most so many notes were pulled, off each lane in turn, and fewer where it doesn't end well
pub record IsPullAll (most : ℕ) (old : Running) (count : PulledCount) (answer : ℕ)
    (new : Running) : Type 0 where
  pub moved : ArePulls (AreInTurns old.limits.ring) most old count new
  pub fewer : (answer ≡ OK → ⊥) → count.events + count.ended < most
  pub ends : IsEndOfAll most old.collector new.collector count answer

-- at most so many of the thread's notes were pulled, if there is such a thread
pub record IsPullOfLane (thread most : ℕ) (old : Running) (count : PulledCount) (answer : ℕ)
    (new : Running) : Type 0 where
  pub known : thread < old.limits.threads → IsPullOff thread most old count answer new
  pub unknown : old.limits.threads ≤ thread → (answer ≡ RANGE) × (count ≡ none_pulled) × (new ≡ old)

-- a session that runs changes so, and another one is as it was
abbrev pub IsPullingOn : (Running → PulledCount → ℕ → Running → Type 0) → Stage → PulledCount → ℕ
    → Stage → Type 0
IsPullingOn Pulls (Runs old) count answer (Runs new) = Pulls old count answer new
IsPullingOn Pulls (Runs old) count answer (HasSettled lists) = ⊥
IsPullingOn Pulls (Runs old) count answer Gone = ⊥
IsPullingOn Pulls (HasSettled lists) count answer new =
    (answer ≡ MISUSE) × (count ≡ none_pulled) × (new ≡ HasSettled lists)
IsPullingOn Pulls Gone count answer new = (answer ≡ MISUSE) × (count ≡ none_pulled) × (new ≡ Gone)

-- what collects changes so, and all else of the session is as it was
pub record IsPulling (Pulls : Running → PulledCount → ℕ → Running → Type 0) (old : SessionState)
    (count : PulledCount) (answer : ℕ) (new : SessionState) : Type 0 where
  pub stage : IsPullingOn Pulls old.stage count answer new.stage
  pub rest : new ≡ record old { stage = new.stage }
