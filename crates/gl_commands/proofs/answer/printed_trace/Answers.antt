use Rattle.std.proofs.Common.{ap, refl}
use Rattle.std.proofs.lemmas.Result.{err_from_is_err_and}
use Rattle.gl_commands.specs.Answer.Answer.{Prints}
use Rattle.gl_commands.specs.declared.ended.Outcome.TheVariants.{Done}
use Rattle.gl_commands.proofs.answer.printed_trace.Goals as goal

pub returns-in_err-text-clause-printed : goal.returns-in_err-text-clause-printed
returns-in_err-text-clause-printed c =
    let p = err_from_is_err_and c.from_residual.result c.from_residual.ensures.1 in
    rw p.1 tt

pub returns-in_err-text-clause-memory : goal.returns-in_err-text-clause-memory
returns-in_err-text-clause-memory c =
    let p = err_from_is_err_and c.from_residual.result c.from_residual.ensures.1 in
    rw (p.1, p.2) refl

pub returns-clause-printed : goal.returns-clause-printed
returns-clause-printed c = ap (λ t. Prints t Done) c.in_ok-text.ensures.written
