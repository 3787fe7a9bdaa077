use Rattle.std.proofs.Common.{[], refl, subst}
use Rattle.gl_std.specs.bodies.Ahead.{text_of, HasReadOn}
use Rattle.gl_std.proofs.HeardAhead.{begin_rest, can_begin, can_finish, rest_last}
use Rattle.gl_std.proofs.PiecesAhead.{taken_no_piece}
use Rattle.std.proofs.lemmas.Result.{err_from_is_err_and}
use Rattle.gl_std.proofs.from_source.parallel.read_ahead.Goals as goal

pub read_rounds-requires-clause-can : goal.read_rounds-requires-clause-can
read_rounds-requires-clause-can g c κs within =
    let read = c.in_ok-ending.ensures.read in
    let on = subst (HasReadOn (g.R.Source.position c.args.input.now) c.args.reader [] (g.R.Source.position c.read_first.new.input) (g.R.Source.failed c.read_first.new.input) c.read_first.new.reader (text_of c.read_first.new.pieces.items)) (c.goes_on.ensures c.if-goes_on.true) read.reads in
    can_begin _ _ _ c.args.reader c.read_first.new.reader c.args.judge (text_of c.read_first.new.pieces.items) c.requires.can read.same_size on

pub read_rounds-requires-clause-short : goal.read_rounds-requires-clause-short
read_rounds-requires-clause-short g c κs within =
    c.in_ok-ending.ensures.read.short

pub read_rounds-requires-clause-right : goal.read_rounds-requires-clause-right
read_rounds-requires-clause-right g c κs within =
    c.in_ok-ending.ensures.right c.args.judge.judge.names

pub read_rounds-requires-clause-not_failed : goal.read_rounds-requires-clause-not_failed
read_rounds-requires-clause-not_failed g c κs within =
    let read = c.in_ok-ending.ensures.read in
    let on = subst (HasReadOn (g.R.Source.position c.args.input.now) c.args.reader [] (g.R.Source.position c.read_first.new.input) (g.R.Source.failed c.read_first.new.input) c.read_first.new.reader (text_of c.read_first.new.pieces.items)) (c.goes_on.ensures c.if-goes_on.true) read.reads in
    on.gives.0

-- reading goes on
pub returns-then-goes_on : goal.returns-then-goes_on
returns-then-goes_on g c =
    let read = c.in_ok-ending.ensures.read in
    let on = subst (HasReadOn (g.R.Source.position c.args.input.now) c.args.reader [] (g.R.Source.position c.read_first.new.input) (g.R.Source.failed c.read_first.new.input) c.read_first.new.reader (text_of c.read_first.new.pieces.items)) (c.goes_on.ensures c.if-goes_on.true) read.reads in
    begin_rest _ _ (g.R.Source.position c.read_rounds.new.input) _ (g.R.Source.failed c.read_rounds.new.input) c.args.reader c.read_first.new.reader c.args.judge c.args.lists (text_of c.read_first.new.pieces.items) c.read_rounds.result on c.read_rounds.ensures

pub leave-requires : goal.leave-requires
leave-requires g c =
    let read = c.in_ok-ending.ensures.read in
    let now = g.R.Source.position c.args.input.now in
    let later = g.R.Source.position c.read_first.new.input in
    let failed = g.R.Source.failed c.read_first.new.input in
    let f = c.read_first.new.reader in
    let pieces = c.read_first.new.pieces.items in
    record {
      can = can_finish now later failed c.args.reader f c.args.judge pieces c.in_ok-ending.ending c.requires.can read c.in_ok-ending.ensures.cut;
      right = c.in_ok-ending.ensures.right c.args.judge.judge.names;
      on = λ is. can_begin now later failed c.args.reader f c.args.judge (text_of pieces) c.requires.can read.same_size (subst (HasReadOn now c.args.reader [] later failed f (text_of pieces)) is read.reads);
      not_failed = λ is. let on = subst (HasReadOn now c.args.reader [] later failed f (text_of pieces)) is read.reads in on.gives.0;
    }

-- the first piece is the last one
pub returns : goal.returns
returns g c =
    let now = g.R.Source.position c.args.input.now in
    let later = g.R.Source.position c.read_first.new.input in
    let f = c.read_first.new.reader in
    let j = c.args.judge in
    rest_last now now later (g.R.Source.position c.leave.new.input) (g.R.Source.failed c.read_first.new.input) (g.R.Source.failed c.leave.new.input) c.args.reader j c.args.lists [] c.args.reader f j j c.args.lists c.args.lists [] [] (text_of c.read_first.new.pieces.items) c.in_ok-ending.ending c.leave.result
    (λ limits turns start was. was) c.in_ok-ending.ensures.read.reads (taken_no_piece j c.args.lists) refl c.leave.ensures

-- memory was refused
pub returns-in_err-ending : goal.returns-in_err-ending
returns-in_err-ending g c =
    let p = err_from_is_err_and c.from_residual.result c.from_residual.ensures.1 in
    rw p.1 tt
