use Rattle.gl_std.proofs.HeardAhead.{added_read, no_piece_short}
use Rattle.gl_std.proofs.from_source.parallel.cutting.read_next.Goals as goal

pub read_ahead-requires-clause-short : goal.read_ahead-requires-clause-short
read_ahead-requires-clause-short g c = no_piece_short c.args.pieces.now.items c.requires.can_read.none

pub returns-clause-read : goal.returns-clause-read
returns-clause-read g c =
    added_read _ _ _ c.args.reader.now c.read_ahead.new.self c.args.pieces.now.items c.read_ahead.new.pieces.items c.read_ahead.result c.requires.can_read.none c.read_ahead.ensures.adds
