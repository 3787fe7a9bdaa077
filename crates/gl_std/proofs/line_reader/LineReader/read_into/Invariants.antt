use Rattle.std.proofs.Common.{◌≡◌, ◌+◌, ◌≤◌, false, length}
use Rattle.gl_io.specs.declared.source.TheConstants.{CHUNK}
use Rattle.gl_std.specs.bodies.Ahead.{bytes_of, HasReadOn}
use Rattle.gl_std.specs.bodies.Stepping.{OnlyReads}
use Rattle.gl_std.specs.declared.block.TheConstants.{LONGEST}
use Rattle.gl_std.specs.declared.line_reader.pieces.Ending.TheVariants.{More}
use Rattle.gl_std.proofs.line_reader.LineReader.read_into.Given as goal

abbrev pub invariant-loop-ending : goal.invariant-loop-ending
invariant-loop-ending g l = record {
  reads : HasReadOn (g.R.Source.position l.initial.input) l.initial.self (bytes_of l.initial.piece) (g.R.Source.position l.input) (g.R.Source.failed l.input) l.self (bytes_of l.piece) More;
  only : OnlyReads l.initial.self l.self;
  room : length (bytes_of l.piece) + CHUNK ≤ LONGEST;
  not_failed : g.R.Source.failed l.input ≡ false;
  few : l.self.turns ≤ l.initial.self.turns;
  block : l.piece.block ≡ l.initial.piece.block;
}

abbrev pub decreases-loop-ending : goal.decreases-loop-ending
decreases-loop-ending g l = l.self.turns
