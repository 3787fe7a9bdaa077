-- Where each step is enabled, in the words of recorders, lanes, shards and workers.
use Rattle.std.specs.Prelude.{◌≡◌, ◌≢◌, ◌↔◌, ◌⊎◌, ℕ, ◌<◌, Bool, true, false, IsTrue, length, Some, None, slice_get}
use Rattle.gl_event.specs.Bounds.{Bounds}
use Rattle.gl_event.specs.Lawful.{refusal}
use Rattle.gl_event.specs.declared.events.Event.{Event}
use Rattle.gl_edges.specs.declared.edge.Edge.{Edge}
use Rattle.gl_edges.specs.declared.edge.Sample.{Sample}
use Rattle.gl_shards.specs.Shards.{shard_of}
use Rattle.gl_world.specs.Dispatch.{Dispatch, Shard, has_place}
use Rattle.gl_world.specs.Machine.{Lane, State, taken_of, has_closed, has_room, step}
use Rattle.gl_world.specs.declared.steps.Step.{Step}
use Rattle.gl_world.specs.declared.steps.Step.TheVariants.{Take, End, Pull, Again, Ship, Work}
use Rattle.gl_world.specs.declared.steps.Did.{Did}
use Rattle.gl_world.specs.declared.steps.Did.TheVariants.{Nothing, Taken, Passed, Ended, Pulled, Refused, Shipped, Worked}

-- the thread hasn't ended and has a wish left, which is unlawful next, or there is room in its ring
pub record MayTake (limits : Bounds) (thread : ℕ) (lane : Lane) : Type 0 where
  pub running : has_closed thread lane ≡ false
  pub wish : Event
  pub left : slice_get lane.wishes lane.used ≡ Some wish
  pub unlawful_or_room : (refusal limits thread (taken_of thread lane) wish ≢ None)
      ⊎ IsTrue (has_room limits lane)

-- the thread hasn't ended, and there is room in its ring
pub record MayEnd (limits : Bounds) (thread : ℕ) (lane : Lane) : Type 0 where
  pub running : has_closed thread lane ≡ false
  pub room : IsTrue (has_room limits lane)

-- a note of the lane isn't popped
abbrev pub MayPull : Lane → Type 0
MayPull lane = lane.popped < length lane.pushed

-- the lane has a note at this place, which isn't the next to be popped
abbrev pub MayOffer : Lane → ℕ → Type 0
MayOffer lane place = (place < length lane.pushed) × (place ≢ lane.popped)

-- an edge isn't shipped, and the feed of the oldest one's shard has a place
pub record MayShip (limits : Bounds) (d : Dispatch) : Type 0 where
  pub pair : Edge × Sample
  pub oldest : slice_get d.made d.sent ≡ Some pair
  pub shard : Shard
  pub its_shard : slice_get d.shards (shard_of pair.0 (length d.shards)) ≡ Some shard
  pub place : IsTrue (has_place limits shard)

-- the thread is known, and this holds of its lane
abbrev pub HasLane : State → ℕ → (Lane → Type 0) → Type 0
HasLane s thread P = (lane : Lane) × (slice_get s.lanes thread ≡ Some lane) × P lane

-- the step is enabled
abbrev pub IsEnabled : State → Step → Type 0
IsEnabled s (Take thread) = HasLane s thread (MayTake s.limits thread)
IsEnabled s (End thread) = HasLane s thread (MayEnd s.limits thread)
IsEnabled s (Pull thread) = HasLane s thread MayPull
IsEnabled s (Again thread place) = HasLane s thread (λ lane. MayOffer lane place)
IsEnabled s Ship = MayShip s.limits s.dispatch
IsEnabled s (Work k) =
    (shard : Shard) × (slice_get s.dispatch.shards k ≡ Some shard)
    × (shard.worked < length shard.shipped)

-- a step does something exactly where it is enabled, and where it does nothing the state stays
pub record StepsWhereEnabled : Type 0 where
  pub exactly : (s : State) (x : Step) → ((step s x).did ≢ Nothing) ↔ IsEnabled s x
  pub stays : (s : State) (x : Step) → (step s x).did ≡ Nothing → (step s x).after ≡ s

-- what was done made a list longer, which may take memory: a wish that is passed over and a note that is refused don't
abbrev pub grows : Did → Bool
grows Nothing = false
grows (Taken place) = true
grows (Passed why) = false
grows Ended = true
grows (Pulled answer) = true
grows (Refused why) = false
grows (Shipped shard) = true
grows Worked = true
