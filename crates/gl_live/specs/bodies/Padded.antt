-- Lists of a trace beside those of a session that has more threads.
use Rattle.std.specs.Prelude.{◌≡◌, ℕ, ◌<◌, List, [], ◌++◌, Some, length, replicate, slice_get}
use Rattle.gl_event.specs.declared.events.Event.{Event}
use Rattle.gl_event.specs.declared.events.Event.TheVariants.{Fork, Join}

-- the lists, and so many empty ones after them
abbrev pub padded : ℕ → List (List Event) → List (List Event)
padded more lists = lists ++ replicate more []

-- each thread that the lists fork or join has a list
pub record HaveAll (lists : List (List Event)) : Type 0 where
  pub forked : (thread : ℕ) (es : List Event) (place other loc : ℕ)
      → slice_get lists thread ≡ Some es → slice_get es place ≡ Some (Fork other loc)
      → other < length lists
  pub joined : (thread : ℕ) (es : List Event) (place other loc : ℕ)
      → slice_get lists thread ≡ Some es → slice_get es place ≡ Some (Join other loc)
      → other < length lists
