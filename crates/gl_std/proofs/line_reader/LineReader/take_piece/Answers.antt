use Rattle.std.proofs.Common.{length, subst}
use Rattle.gl_std.specs.bodies.Ahead.{JudgesText, OnlyJudges}
use Rattle.gl_std.proofs.NumberedLines.{if_ok_then, right_among}
use Rattle.gl_std.proofs.line_reader.LineReader.take_piece.Goals as goal

-- it was cut
pub returns-then-pays-clause-judges : goal.returns-then-pays-clause-judges
returns-then-pays-clause-judges c = subst (λ t. JudgesText c.args.self.now c.args.lists.now t c.take_cut.new.self c.take_cut.new.lists c.take_cut.result) c.as_slice.ensures c.take_cut.ensures.judges

-- its lines are judged from its text
pub returns-else-pays-clause-judges : goal.returns-else-pays-clause-judges
returns-else-pays-clause-judges c =
    subst (λ t. JudgesText c.args.self.now c.args.lists.now t c.take_text.new.self c.take_text.new.lists c.take_text.result) c.as_slice-in-Some.ensures c.take_text.ensures

pub returns-else-pays-clause-right : goal.returns-else-pays-clause-right
returns-else-pays-clause-right c =
    let old = c.args.self.now in
    let new = c.take_text.new.self in
    let block = c.in-Some.block in
    if_ok_then c.take_text.result (OnlyJudges old new (length c.as_slice-in-Some.result.now)) _ (λ only. right_among block.names old.judge.names new.judge.names block.known only.grows (rw c.in-Some.is at c.requires.right)) c.take_text.ensures.only

pub returns-in-None-clause-judges : goal.returns-in-None-clause-judges
returns-in-None-clause-judges c =
    subst (λ t. JudgesText c.args.self.now c.args.lists.now t c.take_text-in-None.new.self c.take_text-in-None.new.lists c.take_text-in-None.result) c.as_slice-in-None.ensures c.take_text-in-None.ensures
