use Rattle.gl_std.specs.bodies.Ahead.{text_of}
use Rattle.gl_std.proofs.HeardAhead.{ending_broke, ending_end, ending_more}
use Rattle.gl_std.proofs.from_source.parallel.ending.leave.Goals as goal

-- this thread goes on alone
pub returns-in-More : goal.returns-in-More
returns-in-More g c =
    ending_more (g.R.Source.position c.args.input.now) (g.R.Source.position c.read_alone.new.input) (g.R.Source.failed c.args.input.now) (g.R.Source.failed c.read_alone.new.input) c.args.reader c.args.judge c.args.lists (text_of c.args.pieces.now.items) c.args.ending c.read_alone.result c.read_alone.ensures c.in-More.is

-- the source has ended
pub returns-in-End : goal.returns-in-End
returns-in-End g c =
    ending_end (g.R.Source.position c.args.input.now) (g.R.Source.failed c.args.input.now) c.args.reader c.args.judge c.args.lists (text_of c.args.pieces.now.items) c.args.ending c.finish_ahead.result c.finish_ahead.ensures c.in-End.is

-- a read failed, or no turn was left
pub returns-in-Broke : goal.returns-in-Broke
returns-in-Broke g c =
    ending_broke (g.R.Source.position c.args.input.now) (g.R.Source.failed c.args.input.now) c.args.reader c.args.judge c.args.lists (text_of c.args.pieces.now.items) c.args.ending c.finish_ahead-in-Broke.result c.finish_ahead-in-Broke.ensures c.in-Broke.is
