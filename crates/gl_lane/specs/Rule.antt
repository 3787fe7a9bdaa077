-- The rule of a lane, which each note in it obeys.
use Rattle.std.specs.Prelude.{◌≡◌, ℕ}
use Rattle.gl_event.specs.declared.notes.Note.{Note}
use Rattle.gl_event.specs.declared.notes.Body.TheVariants.{Ended}

-- an end mark's place is its count
abbrev pub IsPlaced : Note → Type 0
IsPlaced note = (count : ℕ) → note.body ≡ Ended count → note.place ≡ count
