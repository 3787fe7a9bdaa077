use Rattle.std.proofs.lemmas.Result.{err_from_is_err_and}
use Rattle.gl_grounds.proofs.classes.flagged_classes.Goals as goal

pub returns-in_err-occurs-clause-long : goal.returns-in_err-occurs-clause-long
returns-in_err-occurs-clause-long c =
    let p = err_from_is_err_and c.from_residual.result c.from_residual.ensures.1 in
    rw p.1 tt

pub returns-in_err-occurs-clause-flagged : goal.returns-in_err-occurs-clause-flagged
returns-in_err-occurs-clause-flagged c =
    let p = err_from_is_err_and c.from_residual.result c.from_residual.ensures.1 in
    rw p.1 tt

pub returns-clause-long : goal.returns-clause-long
returns-clause-long c = c.loop-i.invariant.long
