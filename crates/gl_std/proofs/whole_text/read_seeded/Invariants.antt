use Rattle.std.proofs.Common.{◌≡◌, ◌+◌, ◌≤◌, length}
use Rattle.gl_std.specs.Lines.{lines}
use Rattle.gl_std.specs.bodies.States.{HasJudged, IsSound}
use Rattle.gl_std.specs.Trace.{read_from, trace_of}
use Rattle.gl_std.specs.declared.trace.Trace.{Trace}
use Rattle.gl_std.proofs.whole_text.read_seeded.Given as goal

abbrev pub invariant-loop-line : goal.invariant-loop-line
invariant-loop-line l =
    record {
      told : Trace;
      rest_of_text : read_from l.limits l.judge.line told (lines l.rest) ≡ trace_of l.limits l.bytes;
      judged : HasJudged l.judge told;
      listed : l.lists ≡ told.lists;
      sound : IsSound l.judge;
      limits : l.judge.limits ≡ l.limits;
      countable : l.judge.line + length l.rest ≤ length l.bytes + 1;
    }

abbrev pub decreases-loop-line : goal.decreases-loop-line
decreases-loop-line l = length l.rest
