-- What is known of a text of which no more comes.
use Rattle.std.specs.Prelude.{◌≡◌, true, ℕ, List, Result}
use Rattle.gl_event.specs.Bounds.{Bounds}
use Rattle.gl_io.specs.Reads.{HasRead}
use Rattle.gl_io.specs.Uses.{SourceUse}
use Rattle.gl_std.specs.LineReading.{LineReader, Reaches}
use Rattle.gl_std.specs.Streaming.{names_of, with_answer, HasTold, IsOfNamed, Leaves, Stream}
use Rattle.gl_std.specs.declared.faults.LinesFault.{LinesFault}
use Rattle.gl_std.specs.declared.stream.Item.{Item}
use Rattle.gl_std.specs.declared.trace.Trace.{Trace}

-- no more comes of this text: its lines that LF has ended told this trace, and the rest of it is a last line
abbrev pub IsOver : LineReader → List ℕ → Trace → Type 0
IsOver f text told = Reaches f.judge f.beginning text told

-- this is the answer where no more comes of a text: what its last line tells, the end where there is none, or the fault of that line
pub record IsLastAnswer (items items_later : Stream)
    (result : Result Item LinesFault) : Type 0 where
  pub tells : (limits : Bounds) (turns : ℕ) (input : SourceUse) (text : List ℕ) (told : Trace)
      → HasRead turns input.before input.after input.failed text true
      → items.reader.judge.limits ≡ limits → IsOver items.reader text told
      → HasTold limits turns input items_later text
      (with_answer result (names_of items_later) told)
  pub known : IsOfNamed (names_of items_later) result
  pub leaves : Leaves result items_later
