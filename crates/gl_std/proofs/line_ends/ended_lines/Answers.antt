use Rattle.std.proofs.Common.{sym}
use Rattle.gl_std.proofs.PieceByPiece.{ended-last, ended-nowhere}
use Rattle.gl_std.proofs.line_ends.ended_lines.Goals as goal

pub returns-in-Some : goal.returns-in-Some
returns-in-Some c = ended-last c.args.text.now c.in-Some.last c.in-Some.ensures.0.high c.in-Some.ensures.0.after c.in-Some.ensures.1

pub returns-in-None : goal.returns-in-None
returns-in-None c = sym (ended-nowhere c.args.text.now c.in-None.ensures)
