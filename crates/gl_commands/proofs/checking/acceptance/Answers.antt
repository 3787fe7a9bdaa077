use Rattle.std.proofs.lemmas.Result.{err_from_is_err_and}
use Rattle.gl_commands.proofs.checking.acceptance.Goals as goal

pub returns-in_err-format-clause-text : goal.returns-in_err-format-clause-text
returns-in_err-format-clause-text c =
    let p = err_from_is_err_and c.from_residual.result c.from_residual.ensures.1 in
    rw p.1 tt

pub returns-in_err-format-clause-outcome : goal.returns-in_err-format-clause-outcome
returns-in_err-format-clause-outcome c =
    let p = err_from_is_err_and c.from_residual.result c.from_residual.ensures.1 in
    rw p.1 tt
