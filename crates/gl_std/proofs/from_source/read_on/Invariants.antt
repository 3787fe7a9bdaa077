use Rattle.std.proofs.Common.{◌≡◌, false}
use Rattle.gl_std.specs.bodies.Hearing.{IsStillReading}
use Rattle.gl_std.specs.bodies.States.{IsFit}
use Rattle.gl_std.specs.bodies.Stepping.{fuel}
use Rattle.gl_std.proofs.from_source.read_on.Given as goal

abbrev pub invariant-lines : goal.invariant-lines
invariant-lines g l = record {
  on : IsStillReading (g.R.Source.position l.initial.input) l.initial.reader l.initial.lists (g.R.Source.position l.input) l.reader l.lists;
  fit : IsFit l.reader;
  sound : g.R.Source.failed l.input ≡ false;
}

abbrev pub decreases-lines : goal.decreases-lines
decreases-lines g l = fuel l.reader
