-- What becomes of the bytes that are left of a read, line by line.
use Rattle.std.specs.Prelude.{◌≡◌, ◌+◌, ◌<◌, ◌≤◌, ℕ, List, [], ◌∷◌, ◌++◌, Option, Some, None, Result, Ok, Err, length, vec_len}
use Rattle.gl_std.specs.bodies.States.{HasJudged, IsAt, IsOver, IsSound, Reaches}
use Rattle.gl_std.specs.bodies.Telling.{with_judged, IsKnown}
use Rattle.gl_std.specs.Lines.{LF}
use Rattle.gl_std.specs.Pieces.{IsFaulty}
use Rattle.gl_std.specs.Trace.{trace_of}
use Rattle.gl_std.specs.declared.faults.ReadFault.{ReadFault}
use Rattle.gl_std.specs.declared.faults.ReadFault.TheVariants.{Line, Memory}
use Rattle.gl_std.specs.declared.judge.Judge.{Judge}
use Rattle.gl_std.specs.declared.judge.Judged.{Judged}
use Rattle.gl_std.specs.declared.line_reader.LineReader.{LineReader}
use Rattle.gl_std.specs.declared.line_reader.TheConstants.{KEPT}
use Rattle.gl_std.specs.declared.trace.Trace.{Trace}

-- ---- a line that LF ends

-- a line that LF ends is judged: whatever lines told whatever trace, with this one they tell what it adds to that
pub record HasEndedLine (old : Judge) (beginning end : List ℕ) (new : Judge) (later : List ℕ)
    (judged : Judged) : Type 0 where
  pub reaches : (seen : List ℕ) (told : Trace) → Reaches old beginning seen told
      → Reaches new later (seen ++ end ++ LF ∷ []) (with_judged judged new.names told)
  pub known : IsKnown judged (length new.names.threads)
  pub sound : IsSound new
  -- nothing is known yet of the line after it
  pub empty : later ≡ []
  pub line : new.line ≡ old.line + 1

-- what becomes of a line that ends so, where so much is known of its beginning: it is judged, or it is the first one at fault
abbrev pub EndsLine : Judge → List ℕ → List ℕ → Judge → List ℕ → Result Judged ReadFault → Type 0
EndsLine old beginning end new later (Ok judged) = HasEndedLine old beginning end new later judged
EndsLine old beginning end new later (Err (Line number kind)) =
    (seen : List ℕ) (told : Trace) → Reaches old beginning seen told
    → IsFaulty old.limits (seen ++ end ++ LF ∷ []) number kind
EndsLine old beginning end new later (Err Memory) = Unit {0}

-- ---- the lines of a read

-- the next line can be taken: no line was counted twice, what is left of the latest read lies in the buffer, and no more is kept
-- of a line that isn't ended than tells what it is
pub record CanTakeLines (f : LineReader) : Type 0 where
  pub sound : IsSound f.judge
  pub order : f.start ≤ f.end
  pub within : f.end ≤ vec_len f.buffer
  pub few : length f.unfinished.items ≤ KEPT

-- a line was taken off what is left: where a text had told a trace, it tells what the line adds to that
pub record HasTakenLine (old new : LineReader) (judged : Judged) : Type 0 where
  pub at : (text : List ℕ) (told : Trace) → IsAt old text told
      → IsAt new text (with_judged judged new.judge.names told)
  pub known : IsKnown judged (length new.judge.names.threads)
  pub further : old.start < new.start
  pub line : new.judge.line ≡ old.judge.line + 1
  pub ready : CanTakeLines new

-- LF ends no line in what was left, which is now kept as the beginning of one: nothing is left, and nothing more was told
pub record HasTakenRest (old new : LineReader) : Type 0 where
  pub at : (text : List ℕ) (told : Trace) → IsAt old text told → IsAt new text told
  pub spent : new.start ≡ new.end
  pub same_line : new.judge.line ≡ old.judge.line
  pub ready : CanTakeLines new

-- what the next line is in what is left of the latest read, if LF ends one there; or it is the first one at fault
abbrev pub TakesLine : LineReader → LineReader → Result (Option Judged) ReadFault → Type 0
TakesLine old new (Ok (Some judged)) = HasTakenLine old new judged
TakesLine old new (Ok None) = HasTakenRest old new
TakesLine old new (Err (Line number kind)) =
    (text : List ℕ) (told : Trace) → IsAt old text told → IsFaulty old.judge.limits text number kind
TakesLine old new (Err Memory) = Unit {0}

-- nothing was read, and the limits are the same
pub record OnlyTakes (old new : LineReader) : Type 0 where
  pub same_end : new.end ≡ old.end
  pub same_size : vec_len new.buffer ≡ vec_len old.buffer
  pub same_turns : new.turns ≡ old.turns
  pub same_limits : new.judge.limits ≡ old.judge.limits

-- ---- the last line

-- the last line is judged, or there is none: where a text had told a trace before it, all of it tells what the line adds to that
pub record HasTakenLast (old new : LineReader) (judged : Judged) : Type 0 where
  pub trace : (text : List ℕ) (told : Trace) → IsOver old text told
      → trace_of old.judge.limits text ≡ Ok (with_judged judged new.judge.names told)
  pub has_judged : (text : List ℕ) (told : Trace) → IsOver old text told
      → HasJudged new.judge (with_judged judged new.judge.names told)
  pub known : IsKnown judged (length new.judge.names.threads)

-- what the last line is of a text of which no more comes; or it is the first one at fault
abbrev pub TakesLast : LineReader → LineReader → Result Judged ReadFault → Type 0
TakesLast old new (Ok judged) = HasTakenLast old new judged
TakesLast old new (Err (Line number kind)) =
    (text : List ℕ) (told : Trace) → IsOver old text told
    → trace_of old.judge.limits text ≡ Err (Line number kind)
TakesLast old new (Err Memory) = Unit {0}
