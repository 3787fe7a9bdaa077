use Rattle.std.proofs.Common.{◌≡◌, ◌++◌, Err, ap, subst, ◌∙◌}
use Rattle.gl_std.specs.Pieces.{IsFaulty}
use Rattle.gl_std.specs.bodies.Ahead.{text_of}
use Rattle.gl_std.specs.declared.faults.ReadFault.TheVariants.{Line}
use Rattle.gl_std.proofs.HeardAhead.{faulty_parts, gone_fit, heard_rest}
use Rattle.gl_std.proofs.from_source.parallel.ending.read_alone.Goals as goal

pub read_on-requires : goal.read_on-requires
read_on-requires g c = record {
  fit = gone_fit c.args.reader c.args.judge c.take_pieces.new.self c.go_on_from.new.self (text_of c.args.pieces.now.items) c.requires.on c.in-Ok.ensures.judges.only c.go_on_from.ensures;
  not_failed = c.requires.not_failed;
}

-- this thread goes on alone
pub returns-in-Ok : goal.returns-in-Ok
returns-in-Ok g c =
    heard_rest (g.R.Source.position c.args.input.now) (g.R.Source.position c.read_on.new.input) (g.R.Source.failed c.read_on.new.input) c.args.reader c.args.judge c.take_pieces.new.self c.go_on_from.new.self c.args.lists c.take_pieces.new.lists (text_of c.args.pieces.now.items)
    c.read_on.result c.read_on.ensures c.in-Ok.ensures.judges.tells c.in-Ok.ensures.judges.only.same_limits c.go_on_from.ensures

-- a line of the pieces is at fault
pub returns-in-Err-Line : goal.returns-in-Err-Line
returns-in-Err-Line g c = λ limits turns start ahead.
    let text = ahead.seen ++ text_of c.args.pieces.now.items in
    let is : c.take_pieces.result ≡ Err (Line c.in-Err-Line.line c.in-Err-Line.kind) = c.in-Err-Line.is ∙ ap (λ f. Err f) c.in-Err-Line.field-0-is in
    c.stop_ahead.ensures limits turns start text ahead.given
    (faulty_parts limits text c.in-Err-Line.line _ c.in-Err-Line.kind _ c.in-Err-Line.line-is c.in-Err-Line.kind-is (subst (λ l. IsFaulty l text c.in-Err-Line.line c.in-Err-Line.kind) ahead.same (c.take_pieces.ensures.judges.fault c.in-Err-Line.line c.in-Err-Line.kind is ahead.seen ahead.told ahead.reaches ahead.listed)))
