-- What was heard of a source.
use Rattle.std.specs.Prelude.{◌≡◌, ℕ, Bool, List}
use Rattle.gl_event.specs.Bounds.{Bounds}
use Rattle.gl_io.specs.Positions.{Position}
use Rattle.gl_io.specs.Reads.{HasRead}
use Rattle.gl_std.specs.Pieces.{judged}
use Rattle.gl_std.specs.Trace.{trace_of}
use Rattle.gl_std.specs.declared.from_source.Heard.{Heard}

-- the reads gave this text; what was heard is its trace, or its first fault: of all of it where it was read whole, else of the
-- lines that LF has ended
pub record HasHeard (limits : Bounds) (turns : ℕ) (old new : Position) (failed : Bool)
    (heard : Heard) : Type 0 where
  pub text : List ℕ
  pub read : HasRead turns old new failed text heard.is_whole
  pub trace : trace_of limits (judged heard.is_whole text) ≡ heard.trace
