use Rattle.std.proofs.Common.{◌≡◌, ◌≤◌, false}
use Rattle.gl_std.specs.bodies.Ahead.{text_of, AreShort, HasReadOn, StayRight}
use Rattle.gl_std.specs.bodies.Stepping.{OnlyReads}
use Rattle.gl_std.specs.declared.line_reader.pieces.Ending.TheVariants.{More}
use Rattle.gl_std.proofs.line_reader.LineReader.read_ahead.Given as goal

abbrev pub invariant-loop-ending : goal.invariant-loop-ending
invariant-loop-ending g l = record {
  reads : HasReadOn (g.R.Source.position l.initial.input) l.initial.self (text_of l.initial.pieces.items) (g.R.Source.position l.input) (g.R.Source.failed l.input) l.self (text_of l.pieces.items) More;
  only : OnlyReads l.initial.self l.self;
  short : AreShort l.pieces.items;
  not_failed : g.R.Source.failed l.input ≡ false;
  few : l.self.turns ≤ l.initial.self.turns;
  right : StayRight l.initial.spare.items l.initial.pieces.items l.spare.items l.pieces.items;
}

abbrev pub decreases-loop-ending : goal.decreases-loop-ending
decreases-loop-ending g l = l.self.turns
