use Rattle.std.proofs.Common.{◌≡◌, ◌++◌, ℕ, List, length}
use Rattle.gl_std.specs.bodies.Ahead.{OnlyJudges, TakesPiece}
use Rattle.gl_std.proofs.line_reader.LineReader.take_text.Given as goal

abbrev pub invariant-loop-end : goal.invariant-loop-end
invariant-loop-end l = record {
  front : List ℕ;
  parts : front ++ l.rest ≡ l.text;
  taken : TakesPiece l.initial.self l.initial.lists front l.self l.lists;
  only : OnlyJudges l.initial.self l.self (length front);
}

abbrev pub decreases-loop-end : goal.decreases-loop-end
decreases-loop-end l = length l.rest
