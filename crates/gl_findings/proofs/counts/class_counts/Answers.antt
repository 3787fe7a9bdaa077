use Rattle.std.proofs.lemmas.Result.{err_from_is_err_and}
use Rattle.gl_findings.proofs.counts.class_counts.Goals as goal

pub returns-in_err-classes-clause-counts : goal.returns-in_err-classes-clause-counts
returns-in_err-classes-clause-counts c =
    let p = err_from_is_err_and c.from_residual.result c.from_residual.ensures.1 in
    rw p.1 tt

pub returns-in_err-threads-clause-counts : goal.returns-in_err-threads-clause-counts
returns-in_err-threads-clause-counts c =
    let p = err_from_is_err_and c.from_residual-in_err-threads.result c.from_residual-in_err-threads.ensures.1 in
    rw p.1 tt

pub returns-in_err-locks-clause-counts : goal.returns-in_err-locks-clause-counts
returns-in_err-locks-clause-counts c =
    let p = err_from_is_err_and c.from_residual-in_err-locks.result c.from_residual-in_err-locks.ensures.1 in
    rw p.1 tt
