use Rattle.gl_std.proofs.HeardAhead.{no_piece_right, no_piece_short, read_cut}
use Rattle.gl_std.proofs.from_source.parallel.cutting.read_first.Goals as goal

pub read_ahead-requires-clause-short : goal.read_ahead-requires-clause-short
read_ahead-requires-clause-short g c = no_piece_short c.args.pieces.now.items c.requires.none

pub returns-clause-read : goal.returns-clause-read
returns-clause-read g c = record {
  reads = read_cut _ _ _ c.args.reader.now c.read_ahead.new.self c.args.pieces.now.items c.read_ahead.new.pieces.items c.cut_pieces.new.pieces.items c.in_ok-ending.ending c.requires.none c.cut_pieces.ensures.same c.in_ok-ending.ensures.adds.reads;
  same_size = c.in_ok-ending.ensures.adds.only.same_size;
  short = c.cut_pieces.ensures.short;
  fewer = c.in_ok-ending.ensures.adds.fewer;
}

pub returns-clause-right : goal.returns-clause-right
returns-clause-right g c = λ names.
    let none = no_piece_right names c.new-spare.result.items c.new-spare.ensures.items in
    c.cut_pieces.ensures.right names (c.in_ok-ending.ensures.right names none (no_piece_right names c.args.pieces.now.items c.requires.none)).1
