use Rattle.std.proofs.Common.{◌≡◌, ◌<◌, ◌≤◌, ℕ, get_or, length, take}
use Rattle.gl_std.specs.bodies.Ahead.{text_of, IsRightPiece, OnlyJudges, TakesPiece}
use Rattle.gl_std.specs.declared.line_reader.pieces.Piece.{Piece}
use Rattle.gl_std.proofs.line_reader.LineReader.take_pieces.Given as goal

abbrev pub invariant-loop-piece : goal.invariant-loop-piece
invariant-loop-piece l = record {
  taken : TakesPiece l.initial.self l.initial.lists (text_of (take l.piece-index l.initial.piece-items)) l.self l.lists;
  only : OnlyJudges l.initial.self l.self (length (text_of (take l.piece-index l.initial.piece-items)));
  rest : (k : ℕ) (d : Piece) → l.piece-index ≤ k → get_or l.piece-items k d ≡ get_or l.initial.piece-items k d;
  right : (k : ℕ) (d : Piece) → k < l.piece-index → IsRightPiece l.self.judge.names (get_or l.piece-items k d);
}
