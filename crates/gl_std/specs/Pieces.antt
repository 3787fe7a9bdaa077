-- A text that comes in pieces: what is known of it after each.
use Rattle.std.specs.Prelude.{◌≡◌, ℕ, Bool, List, ◌++◌, Contains, Err, if◌then◌else◌}
use Rattle.gl_event.specs.Bounds.{Bounds}
use Rattle.gl_std.specs.Lines.{LF, lines, ended_lines}
use Rattle.gl_std.specs.Trace.{read_from, trace_of}
use Rattle.gl_std.specs.declared.faults.StdKind.{StdKind}
use Rattle.gl_std.specs.declared.faults.ReadFault.TheVariants.{Line}
use Rattle.gl_std.specs.declared.trace.Trace.{Trace}

-- `told` is the trace of the text's lines that LF has ended, and any text that begins with them goes on from there, with the
-- line of this number; `unfinished` is what follows them
pub record IsTold (limits : Bounds) (number : ℕ) (told : Trace)
    (unfinished text : List ℕ) : Type 0 where
  pub parts : text ≡ ended_lines text ++ unfinished
  pub one_line : ¬ Contains unfinished LF
  pub goes_on : (rest : List ℕ)
      → trace_of limits (ended_lines text ++ rest) ≡ read_from limits number told (lines rest)

-- the lines of the text that LF has ended have their first fault there, and so has any text that begins with them
abbrev pub IsFaulty : Bounds → List ℕ → ℕ → StdKind → Type 0
IsFaulty limits text number kind =
    (rest : List ℕ) → trace_of limits (ended_lines text ++ rest) ≡ Err (Line number kind)

-- the part of a text that is judged: all of it where it is whole, else the lines that LF has ended
abbrev pub judged : Bool → List ℕ → List ℕ
judged whole text = if whole then text else ended_lines text
