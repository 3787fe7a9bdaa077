-- What becomes of an intake that accepts a note.
use Rattle.std.specs.Prelude.{◌≡◌, ◌≤◌, [], ◌∷◌, ◌++◌, Result, IsOk, OnErr, OnOk}
use Rattle.gl_event.specs.declared.notes.Note.{Note}
use Rattle.gl_intake.specs.Stream.{Collected, spare_of}

-- the note is the last one of the stream; the stream is unchanged where memory was refused, which it isn't where there was
-- room for the note
pub record Accepts {A E : Type 0} (old new : Collected) (note : Note)
    (result : Result A E) : Type 0 where
  pub grown : OnOk result (new.stream ≡ old.stream ++ note ∷ [])
  pub unchanged : OnErr result (new.stream ≡ old.stream)
  pub room : 1 ≤ spare_of old note.thread → IsOk result
  pub limits : new.limits ≡ old.limits
