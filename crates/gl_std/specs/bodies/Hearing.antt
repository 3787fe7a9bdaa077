-- What is heard of a source.
use Rattle.std.specs.Prelude.{◌≡◌, ℕ, Bool, List, Result}
use Rattle.gl_event.specs.Bounds.{Bounds}
use Rattle.gl_event.specs.declared.events.Event.{Event}
use Rattle.gl_io.specs.Positions.{Position}
use Rattle.gl_std.specs.Heard.{HasHeard}
use Rattle.gl_std.specs.bodies.States.{ReadsOn}
use Rattle.gl_std.specs.bodies.Stepping.{HasStepped}
use Rattle.gl_std.specs.declared.faults.LinesFault.{LinesFault}
use Rattle.gl_std.specs.declared.from_source.Heard.{Heard}
use Rattle.gl_std.specs.declared.line_reader.LineReader.{LineReader}
use Rattle.gl_std.specs.declared.line_reader.Step.{Step}
use Rattle.gl_std.specs.declared.trace.Trace.{Trace}

-- this was heard where the last step brought that: of whatever text was read by then, and whatever trace its lines told that has
-- these lists
abbrev pub Hears : Position → Bool → LineReader → List (List Event) → Result Step LinesFault
    → Position → Bool → Heard → Type 0
Hears now failed f lists step later failed_later heard =
    (limits : Bounds) (turns : ℕ) (start : Position) (text : List ℕ) (told : Trace)
    → HasStepped limits turns start now failed f text told step → lists ≡ told.lists
    → HasHeard limits turns start later failed_later heard

-- reading goes on: some text was read, whose lines told a trace with these lists
pub record IsReading (limits : Bounds) (turns : ℕ) (start now : Position) (f : LineReader)
    (lists : List (List Event)) : Type 0 where
  pub text : List ℕ
  pub told : Trace
  pub reads : ReadsOn limits turns start now f text told
  pub listed : lists ≡ told.lists

-- it still does, wherever the text began
abbrev pub IsStillReading : Position → LineReader → List (List Event) → Position → LineReader
    → List (List Event) → Type 0
IsStillReading now old lists later new lists_later =
    (limits : Bounds) (turns : ℕ) (start : Position)
    → IsReading limits turns start now old lists
    → IsReading limits turns start later new lists_later

-- this was heard of the whole text, wherever it began
abbrev pub HearsOn : Position → LineReader → List (List Event) → Position → Bool → Heard → Type 0
HearsOn now f lists later failed heard = (limits : Bounds) (turns : ℕ) (start : Position)
    → IsReading limits turns start now f lists → HasHeard limits turns start later failed heard
