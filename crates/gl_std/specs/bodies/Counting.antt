-- How many events are known of.
use Rattle.std.specs.Prelude.{ℕ, List, Option, slice_index_or}
use Rattle.std.specs.Option.{option_map_or}
use Rattle.gl_event.specs.States.{State, no_events}

-- how many events the thread has, or none of a new one
abbrev pub count_of : List State → Option ℕ → ℕ
count_of states number = option_map_or (λ i. (slice_index_or states i no_events).events) number 0
