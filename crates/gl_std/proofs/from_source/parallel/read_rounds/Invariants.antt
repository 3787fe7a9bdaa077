use Rattle.std.proofs.Common.{◌≡◌, ◌++◌, false}
use Rattle.gl_std.specs.bodies.Ahead.{text_of, AreCut, AreRight, AreShort, CanReadAhead, IsStillAhead}
use Rattle.gl_std.proofs.from_source.parallel.read_rounds.Given as goal

abbrev pub invariant-loop-pieces : goal.invariant-loop-pieces
invariant-loop-pieces g l = record {
  still : IsStillAhead (g.R.Source.position l.initial.input) l.initial.reader l.initial.judge l.initial.lists (text_of l.initial.next.items) (g.R.Source.position l.input) l.reader l.judge l.lists (text_of l.ahead.items ++ text_of l.next.items);
  can : CanReadAhead l.reader l.judge (text_of l.ahead.items ++ text_of l.next.items);
  short : AreShort l.ahead.items;
  cut : AreCut l.ahead.items;
  right : AreRight l.judge.judge.names l.ahead.items;
  spare_right : AreRight l.judge.judge.names l.spare.items;
  next_short : AreShort l.next.items;
  next_right : AreRight l.judge.judge.names l.next.items;
  not_failed : g.R.Source.failed l.input ≡ false;
}

abbrev pub decreases-loop-pieces : goal.decreases-loop-pieces
decreases-loop-pieces g l = l.reader.turns
