use Rattle.clap.specs.Words.{found_of, rows_of}
use Rattle.gl_options.proofs.Reading.{no_stats}
use Rattle.gl_options.proofs.options.stats_in.Goals as goal

pub returns-in_err-query : goal.returns-in_err-query
returns-in_err-query c =
    rw c.from_residual.ensures (no_stats (rows_of (found_of c.args.options.now)) (λ query jobs asks told. c.in_err-query.ensures query asks))

pub returns-in_err-jobs : goal.returns-in_err-jobs
returns-in_err-jobs c =
    rw c.from_residual-in_err-jobs.ensures (no_stats (rows_of (found_of c.args.options.now)) (λ query jobs asks told. c.in_err-jobs.ensures jobs told))
