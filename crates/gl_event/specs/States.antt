-- What is known of a thread's events without the events themselves, and what each event does to it.
use Rattle.std.specs.Prelude.{◌≡◌, ℕ, true, List, [], ◌∷◌, ◌++◌, length, None, Some}
use Rattle.gl_event.specs.Bounds.{Bounds}
use Rattle.gl_event.specs.Events.{lock_mode, location, closes, partner, segment}
use Rattle.gl_event.specs.Lawful.{refusal}
use Rattle.gl_event.specs.Standing.{StandsFor, IsAcquireOf}
use Rattle.gl_event.specs.declared.events.Effect.{Effect}
use Rattle.gl_event.specs.declared.events.Effect.TheVariants.{Acquires, Releases, Closes}
use Rattle.gl_event.specs.declared.events.Event.{Event}
use Rattle.gl_event.specs.declared.events.Event.TheVariants.{Release}
use Rattle.gl_event.specs.declared.held.HeldEntry.{HeldEntry}

-- the event does this to its thread
abbrev pub HasEffect : Event → Effect → Type 0
HasEffect e (Acquires lock mode loc) = IsAcquireOf lock mode e × (loc ≡ location e)
HasEffect e (Releases lock) = e ≡ Release (lock_mode e) lock (location e)
HasEffect e (Closes other) = (closes e ≡ true) × (partner e ≡ Some other)

-- what is known of a thread's events: what it holds after them, how many there are, and how many of them closed a segment
pub record State : Type 0 where
  pub held : List HeldEntry
  pub events : ℕ
  pub segments : ℕ

-- what is known before the first event
abbrev pub no_events : State
no_events = record { held = []; events = 0; segments = 0 }

-- this is known where the thread's events are these
pub record StandsAfter (es : List Event) (s : State) : Type 0 where
  pub held : StandsFor es s.held
  pub events : s.events ≡ length es
  pub segments : s.segments ≡ segment es

-- of the thread this is known, after some events of which this one may be the next
pub record MayFollow (limits : Bounds) (thread : ℕ) (s : State) (event : Event) : Type 0 where
  -- the events so far
  pub es : List Event
  -- they are known so
  pub stands : StandsAfter es s
  -- nothing stands against the next one
  pub allowed : refusal limits thread es event ≡ None

-- this is known after the event where that was known before it
abbrev pub HasFollowed : State → Event → State → Type 0
HasFollowed before e after =
    (es : List Event) → StandsAfter es before → StandsAfter (es ++ e ∷ []) after
