use Rattle.std.proofs.lemmas.Result.{err_from_is_err_and}
use Rattle.gl_cycles.proofs.reports.report_of_lists.Goals as goal

pub returns-in_err-edges-clause-report : goal.returns-in_err-edges-clause-report
returns-in_err-edges-clause-report c =
    let p = err_from_is_err_and c.from_residual.result c.from_residual.ensures.1 in
    rw p.1 tt

pub returns-in_err-edges-clause-fault : goal.returns-in_err-edges-clause-fault
returns-in_err-edges-clause-fault c =
    let p = err_from_is_err_and c.from_residual.result c.from_residual.ensures.1 in
    rw (p.1, p.2) tt
