use Rattle.std.proofs.lemmas.Result.{err_from_is_err_and}
use Rattle.gl_findings.proofs.finder.Walkers.of.Goals as goal

pub returns-in_err-kept-clause-kept : goal.returns-in_err-kept-clause-kept
returns-in_err-kept-clause-kept c =
    let p = err_from_is_err_and c.from_residual.result c.from_residual.ensures.1 in
    rw p.1 tt

pub returns-in_err-kept-clause-models : goal.returns-in_err-kept-clause-models
returns-in_err-kept-clause-models c =
    let p = err_from_is_err_and c.from_residual.result c.from_residual.ensures.1 in
    rw p.1 tt

pub returns-in_err-kept-clause-kept_bound : goal.returns-in_err-kept-clause-kept_bound
returns-in_err-kept-clause-kept_bound c =
    let p = err_from_is_err_and c.from_residual.result c.from_residual.ensures.1 in
    rw p.1 tt

pub returns-in_err-kept-clause-models_bound : goal.returns-in_err-kept-clause-models_bound
returns-in_err-kept-clause-models_bound c =
    let p = err_from_is_err_and c.from_residual.result c.from_residual.ensures.1 in
    rw p.1 tt

pub returns-in_err-models-clause-kept : goal.returns-in_err-models-clause-kept
returns-in_err-models-clause-kept c =
    let p = err_from_is_err_and c.from_residual-in_err-models.result c.from_residual-in_err-models.ensures.1 in
    rw p.1 tt

pub returns-in_err-models-clause-models : goal.returns-in_err-models-clause-models
returns-in_err-models-clause-models c =
    let p = err_from_is_err_and c.from_residual-in_err-models.result c.from_residual-in_err-models.ensures.1 in
    rw p.1 tt

pub returns-in_err-models-clause-kept_bound : goal.returns-in_err-models-clause-kept_bound
returns-in_err-models-clause-kept_bound c =
    let p = err_from_is_err_and c.from_residual-in_err-models.result c.from_residual-in_err-models.ensures.1 in
    rw p.1 tt

pub returns-in_err-models-clause-models_bound : goal.returns-in_err-models-clause-models_bound
returns-in_err-models-clause-models_bound c =
    let p = err_from_is_err_and c.from_residual-in_err-models.result c.from_residual-in_err-models.ensures.1 in
    rw p.1 tt
