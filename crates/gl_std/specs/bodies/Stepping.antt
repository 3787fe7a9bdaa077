-- What a step of reading brings.
use Rattle.std.specs.Prelude.{◌≡◌, ◌+◌, ◌*◌, ◌-◌, ◌≤◌, ℕ, List, [], Bool, true, false, Result, Ok, Err, ◌++◌, length, vec_len}
use Rattle.gl_event.specs.Bounds.{Bounds}
use Rattle.gl_io.specs.Positions.{Position}
use Rattle.gl_io.specs.Reads.{HasRead}
use Rattle.gl_io.specs.declared.source.Failed.{Failed}
use Rattle.gl_io.specs.declared.source.TheConstants.{CHUNK}
use Rattle.gl_std.specs.LineReading.{HasGiven}
use Rattle.gl_std.specs.bodies.States.{left_of, HasJudged, IsFit, IsOver, ReadsOn}
use Rattle.gl_std.specs.bodies.Telling.{with_judged, IsKnown}
use Rattle.gl_std.specs.Lines.{ended_lines}
use Rattle.gl_std.specs.Pieces.{IsFaulty}
use Rattle.gl_std.specs.Trace.{trace_of}
use Rattle.gl_std.specs.declared.faults.LinesFault.{LinesFault}
use Rattle.gl_std.specs.declared.faults.LinesFault.TheVariants.{Line, Read, Memory}
use Rattle.gl_std.specs.declared.line_reader.LineReader.{LineReader}
use Rattle.gl_std.specs.declared.line_reader.Step.{Step}
use Rattle.gl_std.specs.declared.line_reader.Step.TheVariants.{More, Told, End}
use Rattle.gl_std.specs.declared.judge.Judged.TheVariants.{Blank, Skipped, Stray, Event}
use Rattle.gl_std.specs.declared.trace.Trace.{Trace}

-- the step tells neither a line that isn't blank nor the end
abbrev pub is_idle : Step → Bool
is_idle More = true
is_idle (Told Blank) = true
is_idle (Told Skipped) = false
is_idle (Told Stray) = false
is_idle (Told (Event thread event)) = false
is_idle End = false

-- it falls with each step
abbrev pub fuel : LineReader → ℕ
fuel f = f.turns * (CHUNK + 1) + (f.end - f.start)

-- the next read can be made: there is a buffer for what it gives, and no read has failed
pub record CanRead (f : LineReader) (failed : Bool) : Type 0 where
  pub room : vec_len f.buffer ≡ CHUNK
  pub not_failed : failed ≡ false

-- reading can go on: the reader is fit, and no read has failed
pub record CanReadOn (f : LineReader) (failed : Bool) : Type 0 where
  pub fit : IsFit f
  pub not_failed : failed ≡ false

-- a read that gave some bytes, or met the end
abbrev pub HasFilled : Bool → ℕ → Position → Position → Bool → LineReader → List ℕ → Type 0
HasFilled true turns start now failed f text = HasGiven turns start now f.turns (text ++ left_of f)
HasFilled false turns start now failed f text = HasRead turns start now failed text true

-- what a read gave: it gave some bytes, which begin in the buffer and lie in it, or it met the end and left nothing
pub record HasFilledBuffer (now : Position) (old : LineReader) (later : Position) (failed : Bool)
    (new : LineReader) (more : Bool) : Type 0 where
  pub filled : (turns : ℕ) (start : Position) (text : List ℕ)
      → HasGiven turns start now old.turns text → HasFilled more turns start later failed new text
  pub sound : failed ≡ false
  pub turn : new.turns + 1 ≡ old.turns
  pub begin : new.start ≡ 0
  pub within : new.end ≤ CHUNK
  pub none : more ≡ false → left_of new ≡ []

-- a read that failed, after whatever text was read before
abbrev pub HasBroken : Position → LineReader → Position → Bool → Type 0
HasBroken now old later failed =
    (turns : ℕ) (start : Position) (text : List ℕ) → HasGiven turns start now old.turns text
    → HasRead turns start later failed text false

-- one read
abbrev pub IsRead : Position → LineReader → Position → Bool → LineReader → Result Bool Failed
    → Type 0
IsRead now old later failed new (Ok more) = HasFilledBuffer now old later failed new more
IsRead now old later failed new (Err fault) = HasBroken now old later failed

-- a read changes nothing of what was judged, nor of how the line after that begins, nor the size of the buffer
pub record OnlyReads (old new : LineReader) : Type 0 where
  pub same_judge : new.judge ≡ old.judge
  pub same_beginning : new.unfinished ≡ old.unfinished
  pub same_size : vec_len new.buffer ≡ vec_len old.buffer

-- the rest was read and not judged, to its end or not
pub record HasDrained (turns : ℕ) (start now : Position) (failed : Bool) (text : List ℕ)
    (whole : Bool) : Type 0 where
  pub piece : List ℕ
  pub read : HasRead turns start now failed (text ++ piece) whole

-- what a step tells where the reads gave this text by then, and its lines before that step told this trace
abbrev pub HasStepped : Bounds → ℕ → Position → Position → Bool → LineReader → List ℕ → Trace
    → Result Step LinesFault → Type 0
HasStepped limits turns start now failed f text told (Ok More) =
    ReadsOn limits turns start now f text told
HasStepped limits turns start now failed f text told (Ok (Told judged)) =
    ReadsOn limits turns start now f text (with_judged judged f.judge.names told)
HasStepped limits turns start now failed f text told (Ok End) =
    HasRead turns start now failed text true × (f.judge.limits ≡ limits) × IsOver f text told
HasStepped limits turns start now failed f text told (Err (Line number kind)) =
    HasGiven turns start now f.turns text × IsFaulty limits text number kind
HasStepped limits turns start now failed f text told (Err Read) =
    HasRead turns start now failed text false × (trace_of limits (ended_lines text) ≡ Ok told)
    × HasJudged f.judge told
HasStepped limits turns start now failed f text told (Err Memory) = Unit {0}

-- a step from such a text on, which may have read a piece more
pub record Steps (limits : Bounds) (turns : ℕ) (start now : Position) (failed : Bool)
    (f : LineReader) (text : List ℕ) (told : Trace) (result : Result Step LinesFault) : Type 0 where
  pub piece : List ℕ
  pub stepped : HasStepped limits turns start now failed f (text ++ piece) told result

-- a step of a reader over its source, from whatever text it was told and whatever trace
abbrev pub StepsOn : Position → LineReader → Position → Bool → LineReader → Result Step LinesFault
    → Type 0
StepsOn before old now failed new result =
    (limits : Bounds) (turns : ℕ) (start : Position) (text : List ℕ) (told : Trace)
    → ReadsOn limits turns start before old text told
    → Steps limits turns start now failed new text told result

-- the rest was read after whatever text was read before
abbrev pub DrainsOn : Position → LineReader → Position → Bool → Bool → Type 0
DrainsOn now old later failed whole =
    (turns : ℕ) (start : Position) (text : List ℕ) → HasGiven turns start now old.turns text
    → HasDrained turns start later failed text whole

-- where a step tells an event, its thread is one of so many
abbrev pub IsKnownStep : ℕ → Result Step LinesFault → Type 0
IsKnownStep threads (Ok More) = Unit {0}
IsKnownStep threads (Ok (Told judged)) = IsKnown judged threads
IsKnownStep threads (Ok End) = Unit {0}
IsKnownStep threads (Err fault) = Unit {0}

-- a step leaves a reader that is fit to read on and a source that hasn't failed, as a line at fault does
abbrev pub StepLeaves : Result Step LinesFault → Bool → LineReader → Type 0
StepLeaves (Ok step) failed f = (failed ≡ false) × IsFit f
StepLeaves (Err (Line number kind)) failed f = failed ≡ false
StepLeaves (Err Read) failed f = Unit {0}
StepLeaves (Err Memory) failed f = Unit {0}

-- a step of a reader, or some in a row, with the source at one position before and at the other after
pub record IsStep (now : Position) (old : LineReader) (later : Position) (failed : Bool)
    (new : LineReader) (result : Result Step LinesFault) : Type 0 where
  -- it goes on from whatever text was read, and whatever trace its lines told
  pub tells : StepsOn now old later failed new result
  pub known : IsKnownStep (length new.judge.names.threads) result
  pub leaves : StepLeaves result failed new
  pub same_size : vec_len new.buffer ≡ vec_len old.buffer
