-- What the code's state shows of a text that is being read, and the public words said of that.
use Rattle.std.specs.Prelude.{◌≡◌, ◌+◌, ◌*◌, ◌^◌, ◌<◌, ◌≤◌, ℕ, List, [], drop, length, take, vec_len}
use Rattle.gl_event.specs.Bounds.{Bounds}
use Rattle.gl_io.specs.Positions.{Position}
use Rattle.gl_io.specs.declared.source.TheConstants.{CHUNK}
use Rattle.gl_std.specs.LineReading as line_reading
use Rattle.gl_std.specs.Judging as judging
use Rattle.gl_std.specs.Streaming.{Stage as StageOf, Stream}
use Rattle.gl_std.specs.Trace.{nothing}
use Rattle.gl_std.specs.bodies.Lasts as lasts
use Rattle.gl_std.specs.Streaming.Stage.{Reading as ReadingOn, Done as AtEnd, Faulty as AtFault}
use Rattle.gl_std.specs.declared.line_reader.LineReader.{LineReader}
use Rattle.gl_std.specs.declared.line_reader.TheConstants.{KEPT}
use Rattle.gl_std.specs.declared.judge.Judge.{Judge}
use Rattle.gl_std.specs.declared.stream.Stage.{Stage}
use Rattle.gl_std.specs.declared.stream.Stage.TheVariants.{Reading, Done, Faulty}
use Rattle.gl_std.specs.declared.trace.Trace.{Trace}

-- ---- a judge

-- what a judge knows
abbrev pub judge_of : Judge → judging.Judge
judge_of j =
    record {
      limits = j.limits;
      names = j.names;
      standings = j.standings.items;
      skipped = j.skipped;
      stray = j.stray;
      line = j.line;
    }

abbrev pub HasJudged : Judge → Trace → Type 0
HasJudged j told = judging.HasJudged (judge_of j) told

abbrev pub IsSound : Judge → Type 0
IsSound j = judging.IsSound (judge_of j)

-- ---- a reader

-- what is left of the latest read
abbrev pub left_of : LineReader → List ℕ
left_of f = drop f.start (take f.end f.buffer.items)

-- what a reader knows
abbrev pub reader_of : LineReader → line_reading.LineReader
reader_of f =
    record {
      judge = judge_of f.judge;
      beginning = f.unfinished.items;
      left = left_of f;
      turns = f.turns;
    }

abbrev pub Reaches : Judge → List ℕ → List ℕ → Trace → Type 0
Reaches j beginning seen told = line_reading.Reaches (judge_of j) beginning seen told

abbrev pub IsAt : LineReader → List ℕ → Trace → Type 0
IsAt f text told = line_reading.IsAt (reader_of f) text told

abbrev pub ReadsOn : Bounds → ℕ → Position → Position → LineReader → List ℕ → Trace → Type 0
ReadsOn limits turns start now f text told =
    line_reading.ReadsOn limits turns start now (reader_of f) text told

abbrev pub IsOver : LineReader → List ℕ → Trace → Type 0
IsOver f text told = lasts.IsOver (reader_of f) text told

-- nothing was read yet, wherever the source stands
abbrev pub HasBegun : Bounds → ℕ → LineReader → Type 0
HasBegun limits turns f = (start : Position) → ReadsOn limits turns start start f [] nothing

-- what is left of the latest read lies in the buffer
pub record IsBuffered (f : LineReader) : Type 0 where
  pub order : f.start ≤ f.end
  pub within : f.end ≤ CHUNK
  pub room : vec_len f.buffer ≡ CHUNK

-- the reader is fit to read on, where what is left lies in the buffer
pub record IsFit (f : LineReader) : Type 0 where
  pub sound : IsSound f.judge
  pub order : f.start ≤ f.end
  pub within : f.end ≤ CHUNK
  pub room : vec_len f.buffer ≡ CHUNK
  pub few : length f.unfinished.items ≤ KEPT
  pub countable : f.judge.line + f.end + f.turns * CHUNK + 1 < 2 ^ 64 + f.start

-- ---- items

-- what the next item comes from
abbrev pub stage_of : Stage → StageOf
stage_of Reading = ReadingOn
stage_of Done = AtEnd
stage_of (Faulty fault) = AtFault fault

-- the items of a text that is at this stage, of which the reader knows this
abbrev pub stream_of : Stage → LineReader → Stream
stream_of stage f = record { stage = stage_of stage; reader = reader_of f }

-- while reading goes on, what is left of the latest read lies in the buffer
abbrev pub IsHeld : Stage → LineReader → Type 0
IsHeld Reading f = IsBuffered f
IsHeld Done f = Unit {0}
IsHeld (Faulty fault) f = Unit {0}
