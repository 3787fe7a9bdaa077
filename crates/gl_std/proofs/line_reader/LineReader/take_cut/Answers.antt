use Rattle.std.proofs.Common.{length}
use Rattle.gl_std.specs.bodies.Ahead.{OnlyJudges}
use Rattle.gl_std.proofs.NumberedLines.{if_ok_then, right_among}
use Rattle.gl_std.proofs.PieceByPiece.{no_end}
use Rattle.gl_std.proofs.line_reader.LineReader.take_cut.Goals as goal

-- it has no LF
pub take_unended-requires-clause-none : goal.take_unended-requires-clause-none
take_unended-requires-clause-none c = no_end c.args.text.now c.in-None.ensures

pub returns-in-None-clause-judges : goal.returns-in-None-clause-judges
returns-in-None-clause-judges c = c.take_unended.ensures c.args.lists.now

pub returns-in-None-clause-right : goal.returns-in-None-clause-right
returns-in-None-clause-right c =
    let old = c.args.self.now in
    let new = c.take_unended.new.self in
    let block = c.args.block.now in
    if_ok_then c.take_unended.result (OnlyJudges old new (length c.args.text.now)) _ (λ only. right_among block.names old.judge.names new.judge.names block.known only.grows c.requires.right) (c.take_unended.ensures c.args.lists.now).only
