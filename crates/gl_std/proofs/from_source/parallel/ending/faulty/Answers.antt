use Rattle.gl_std.proofs.PieceByPiece.{faulty_judged}
use Rattle.gl_std.proofs.from_source.parallel.ending.faulty.Goals as goal

pub returns : goal.returns
returns c = λ limits turns start now failed text read faulty. record { text = text; read = read; trace = faulty_judged limits text c.args.line c.args.kind c.args.is_whole faulty }
