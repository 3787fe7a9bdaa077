-- Lists of events with one more.
use Rattle.std.specs.Prelude.{ℕ, ◌-◌, List, [], ◌∷◌, ◌++◌, length, replicate, slice_set, slice_index_or}
use Rattle.gl_event.specs.declared.events.Event.{Event}

-- the lists of so many threads, with the event at the end of its thread's; a new thread's list is empty before
abbrev pub listed : ℕ → List (List Event) → ℕ → Event → List (List Event)
listed threads lists thread event =
    let all = lists ++ replicate (threads - length lists) [] in
    slice_set all thread (slice_index_or all thread [] ++ event ∷ [])
