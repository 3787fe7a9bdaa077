-- Bodies in the ring of a lane of a thread's own, which stand for notes, and those that were taken off it together and are popped one by one.
use Rattle.std.specs.Prelude.{◌≡◌, ◌≤◌, ◌<◌, ◌+◌, ◌-◌, ◌^◌, ◌++◌, ◌∷◌, [], ℕ, List, length, take, drop}
use Rattle.gl_event.specs.declared.notes.Body.{Body}
use Rattle.gl_event.specs.declared.notes.Body.TheVariants.{Ended}
use Rattle.gl_event.specs.declared.notes.Note.{Note}
use Rattle.rtrb.specs.Fifo.{Allowed}

-- the notes of these bodies, which come after so many notes of the thread
unfoldable pub notes_after : ℕ → ℕ → List Body → List Note
notes_after thread place [] = []
notes_after thread place (body ∷ bodies) =
    record { thread = thread; place = place; body = body } ∷ notes_after thread (place + 1) bodies

-- after these the body may come: a place has 32 bits, and an end mark counts them
pub record MayCome (before : List Body) (body : Body) : Type 0 where
  pub fits : length before < 2 ^ 32
  pub counted : (count : ℕ) → body ≡ Ended count → length before ≡ count

-- those of a run that aren't popped yet, of which so many are popped and so many were taken
abbrev pub rest : ℕ → ℕ → List Body → List Body
rest popped taken run = drop popped (take taken run)

-- a list without so many at its end as these are
abbrev pub without : List Body → List Body → List Body
without last all = take (length all - length last) all

-- the bodies of the run that aren't popped yet are the last ones that were received, and so many came before them
pub record AreTaken (place popped taken : ℕ) (run received : List Body) : Type 0 where
  pub within : popped ≤ taken
  pub fit : taken ≤ length run
  pub last : without (rest popped taken run) received ++ rest popped taken run ≡ received
  pub counted : place ≡ length (without (rest popped taken run) received)
  pub allowed : Allowed MayCome (without (rest popped taken run) received) (rest popped taken run)
