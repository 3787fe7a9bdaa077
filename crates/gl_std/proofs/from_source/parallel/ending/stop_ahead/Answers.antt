use Rattle.std.proofs.Common.{◌++◌, sym, subst}
use Rattle.gl_std.specs.bodies.Ahead.{HearsFault}
use Rattle.gl_std.proofs.PieceByPiece.{faulty_more}
use Rattle.gl_std.proofs.from_source.parallel.ending.stop_ahead.Goals as goal

-- the rest is read
pub returns-in-More : goal.returns-in-More
returns-in-More g c =
    subst (λ ending. HearsFault ending (g.R.Source.position c.args.input.now) (g.R.Source.failed c.args.input.now) c.args.reader.turns c.args.line c.args.kind (g.R.Source.position c.drain.new.input) (g.R.Source.failed c.drain.new.input) c.faulty.result) (sym c.in-More.is)
    (λ limits turns start text given faulty.
    let drained = c.drain.ensures turns start text given in
    c.faulty.ensures limits turns start _ _ (text ++ drained.piece) drained.read (faulty_more limits text drained.piece c.args.line c.args.kind faulty))

-- the source has ended
pub returns-in-End : goal.returns-in-End
returns-in-End g c =
    subst (λ ending. HearsFault ending (g.R.Source.position c.args.input.now) (g.R.Source.failed c.args.input.now) c.args.reader.turns c.args.line c.args.kind (g.R.Source.position c.args.input.now) (g.R.Source.failed c.args.input.now) c.faulty-in-End.result) (sym c.in-End.is)
    (λ limits turns start text read faulty. c.faulty-in-End.ensures limits turns start _ _ text read faulty)

-- a read failed, or no turn was left
pub returns : goal.returns
returns g c =
    subst (λ ending. HearsFault ending (g.R.Source.position c.args.input.now) (g.R.Source.failed c.args.input.now) c.args.reader.turns c.args.line c.args.kind (g.R.Source.position c.args.input.now) (g.R.Source.failed c.args.input.now) c.faulty-in-Broke.result) (sym c.in-Broke.is)
    (λ limits turns start text read faulty. c.faulty-in-Broke.ensures limits turns start _ _ text read faulty)
