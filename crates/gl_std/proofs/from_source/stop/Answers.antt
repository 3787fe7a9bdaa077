use Rattle.std.proofs.Common.{◌++◌, Ok, Err, sym, ap, subst, ◌∙◌}
use Rattle.gl_std.specs.bodies.Stepping.{HasStepped, StepLeaves}
use Rattle.gl_std.proofs.PieceByPiece.{faulty_judged, faulty_more}
use Rattle.gl_std.proofs.from_source.stop.Goals as goal

-- a line is at fault
pub returns-in-Line : goal.returns-in-Line
returns-in-Line g c = record {
  heard = λ limits turns start text told stepped same.
      let faulty = subst (λ fault. HasStepped limits turns start (g.R.Source.position c.args.input.now) (g.R.Source.failed c.args.input.now) c.args.reader text told (Err fault)) c.in-Line.is stepped in
      let drained = c.drain-is_whole.ensures turns start text faulty.0 in
      record {
        text = text ++ drained.piece;
        read = drained.read;
        trace = faulty_judged limits (text ++ drained.piece) c.in-Line.line c.in-Line.kind c.drain-is_whole.result (faulty_more limits text drained.piece c.in-Line.line c.in-Line.kind faulty.1);
      };
}

pub drain-is_whole-requires : goal.drain-is_whole-requires
drain-is_whole-requires g c = record {
  room = c.requires.room;
  not_failed = subst (λ fault. StepLeaves (Err fault) (g.R.Source.failed c.args.input.now) c.args.reader) c.in-Line.is c.requires.left;
}

-- a read failed, or no turn was left
pub returns-in-Read : goal.returns-in-Read
returns-in-Read g c = record {
  heard = λ limits turns start text told stepped same.
      let broken = subst (λ fault. HasStepped limits turns start (g.R.Source.position c.args.input.now) (g.R.Source.failed c.args.input.now) c.args.reader text told (Err fault)) c.in-Read.is stepped in
      record {
        text = text;
        read = broken.0;
        trace = broken.1 ∙ ap (λ t. Ok t) (sym (c.of.ensures told (rw c.into_judge.ensures broken.2) same));
      };
}
