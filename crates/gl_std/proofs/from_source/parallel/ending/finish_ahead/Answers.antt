use Rattle.std.proofs.Common.{◌≡◌, ◌++◌, Ok, Err, sym, ap, subst, ◌∙◌}
use Rattle.gl_io.specs.Reads.{HasRead}
use Rattle.gl_std.specs.Lines.{ended_lines}
use Rattle.gl_std.specs.Pieces.{IsFaulty}
use Rattle.gl_std.specs.Trace.{trace_of}
use Rattle.gl_std.specs.bodies.Ahead.{text_of}
use Rattle.gl_std.specs.bodies.States.{HasJudged}
use Rattle.gl_std.specs.declared.faults.ReadFault.TheVariants.{Line}
use Rattle.gl_std.proofs.HeardAhead.{faulty_parts, heard_whole}
use Rattle.gl_std.proofs.PieceByPiece.{told_front}
use Rattle.gl_std.proofs.from_source.parallel.ending.finish_ahead.Goals as goal

-- all was read
pub returns-then-is_whole : goal.returns-then-is_whole
returns-then-is_whole c =
    heard_whole c.args.reader c.take_pieces.new.self c.args.lists c.take_pieces.new.lists (text_of c.args.pieces.now.items) c.args.is_whole c.finish.result c.finish.ensures.heard c.in-Ok.ensures.judges.tells c.in-Ok.ensures.judges.only.same_limits c.if-is_whole.true

-- a read failed, or no turn was left
pub returns-in-Ok : goal.returns-in-Ok
returns-in-Ok c = λ limits turns start now failed seen told read same reaches listed.
    let text = seen ++ text_of c.args.pieces.now.items in
    let more = c.in-Ok.ensures.judges.tells seen told reaches listed in
    let bounds = c.in-Ok.ensures.judges.only.same_limits ∙ same in
    record {
      text = text;
      read = subst (HasRead turns start now failed text) c.if-is_whole.false read;
      trace = ap (λ l. trace_of l (ended_lines text)) (sym bounds) ∙ told_front c.take_pieces.new.self.judge.limits c.take_pieces.new.self.judge.line more.later more.reaches.unfinished text more.reaches.is
          ∙ ap (λ t. Ok t) (sym (c.of.ensures more.later (subst (λ j. HasJudged j more.later) (sym c.into_judge.ensures) more.reaches.judged) more.listed));
    }

-- a line is at fault
pub returns-in-Err-Line : goal.returns-in-Err-Line
returns-in-Err-Line c = λ limits turns start now failed seen told read same reaches listed.
    let text = seen ++ text_of c.args.pieces.now.items in
    let is : c.take_pieces.result ≡ Err (Line c.in-Err-Line.line c.in-Err-Line.kind) = c.in-Err-Line.is ∙ ap (λ f. Err f) c.in-Err-Line.field-0-is in
    c.faulty.ensures limits turns start now failed text read
    (faulty_parts limits text c.in-Err-Line.line _ c.in-Err-Line.kind _ c.in-Err-Line.line-is c.in-Err-Line.kind-is (subst (λ l. IsFaulty l text c.in-Err-Line.line c.in-Err-Line.kind) same (c.take_pieces.ensures.judges.fault c.in-Err-Line.line c.in-Err-Line.kind is seen told reaches listed)))
