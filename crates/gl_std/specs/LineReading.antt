-- A text that is judged line by line as it comes.
use Rattle.std.specs.Prelude.{◌≡◌, ◌+◌, ◌*◌, ◌^◌, ◌<◌, ◌≤◌, ℕ, List, ◌++◌, length, take}
use Rattle.std.specs.Io.KnownBytes.{Consumes}
use Rattle.gl_event.specs.Bounds.{Bounds}
use Rattle.gl_io.specs.Positions.{Position, LieBetween}
use Rattle.gl_io.specs.declared.source.TheConstants.{CHUNK}
use Rattle.gl_std.specs.Judging.{Judge, HasJudged, IsSound}
use Rattle.gl_std.specs.Pieces.{IsTold}
use Rattle.gl_std.specs.declared.line.TheConstants.{MAX_LINE}
use Rattle.gl_std.specs.declared.trace.Trace.{Trace}

-- what is known of a text that comes read by read: what is judged of its lines that LF has ended, how the line after them
-- begins, what is left of the latest read, and how many reads may still be made
pub record LineReader : Type 0 where
  pub judge : Judge
  pub beginning : List ℕ
  pub left : List ℕ
  pub turns : ℕ

-- so many bytes tell what a line is: one that has as many is too long, with a CR at its end or without
abbrev pub TELLING : ℕ
TELLING = MAX_LINE + 2

-- the lines of this text that LF has ended told this trace, which is what is judged; of what follows them so many bytes are
-- known as tell what the line is
pub record Reaches (j : Judge) (beginning seen : List ℕ) (told : Trace) : Type 0 where
  pub unfinished : List ℕ
  pub is : IsTold j.limits j.line told unfinished seen
  pub kept : beginning ≡ take TELLING unfinished
  pub judged : HasJudged j told

-- this text was read: its lines before what is left of the latest read told this trace
pub record IsAt (f : LineReader) (text : List ℕ) (told : Trace) : Type 0 where
  pub seen : List ℕ
  pub parts : text ≡ seen ++ f.left
  pub reaches : Reaches f.judge f.beginning seen told

-- no line was counted twice, no more is known of a line than tells what it is, and no more is left than one read gives; nothing
-- is counted beyond what numbers hold
pub record IsFit (f : LineReader) : Type 0 where
  pub sound : IsSound f.judge
  pub few : length f.beginning ≤ TELLING
  pub within : length f.left ≤ CHUNK
  pub countable : f.judge.line + length f.left + f.turns * CHUNK + 1 < 2 ^ 64

-- of so many turns so many are left, and each that was used was a read; the reads so far gave this text, a chunk at most each,
-- and each some bytes
pub record HasGiven (turns : ℕ) (start now : Position) (left : ℕ) (text : List ℕ) : Type 0 where
  pub bytes : Consumes start.left now.left text
  pub used : ℕ
  pub counted : LieBetween used start now
  pub spent : used + left ≡ turns
  pub some : used ≤ length text
  pub within : length text ≤ used * CHUNK

-- reading goes on: the reads gave this text, and its lines before what is left of the latest read told this trace
pub record ReadsOn (limits : Bounds) (turns : ℕ) (start now : Position) (f : LineReader)
    (text : List ℕ) (told : Trace) : Type 0 where
  pub given : HasGiven turns start now f.turns text
  pub same : f.judge.limits ≡ limits
  pub at : IsAt f text told
