-- Notes that were taken off a ring together, and are popped one by one.
use Rattle.std.specs.Prelude.{◌≡◌, ◌≤◌, ◌-◌, ◌++◌, ℕ, List, length, take, drop, All}
use Rattle.gl_event.specs.declared.notes.Note.{Note}
use Rattle.gl_lane.specs.Rule.{IsPlaced}

-- those of a run that aren't popped yet, of which so many are popped and so many were taken
abbrev pub rest : ℕ → ℕ → List Note → List Note
rest popped taken run = drop popped (take taken run)

-- a list without so many at its end as these are
abbrev pub without : List Note → List Note → List Note
without last all = take (length all - length last) all

-- the notes of the run that aren't popped yet are the last ones that were received
pub record AreTaken (popped taken : ℕ) (run received : List Note) : Type 0 where
  pub within : popped ≤ taken
  pub fit : taken ≤ length run
  pub last : without (rest popped taken run) received ++ rest popped taken run ≡ received
  pub placed : All IsPlaced (rest popped taken run)
