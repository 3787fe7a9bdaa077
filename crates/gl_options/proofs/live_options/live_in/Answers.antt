use Rattle.clap.specs.Words.{found_of, rows_of}
use Rattle.gl_options.proofs.Reading.{no_session}
use Rattle.gl_options.proofs.live_options.live_in.Goals as goal

pub returns-in_err-recorders : goal.returns-in_err-recorders
returns-in_err-recorders c =
    rw c.from_residual-in_err-recorders.ensures (no_session (rows_of (found_of c.args.options.now)) (λ o query numbers. c.in_err-recorders.ensures o.recorders numbers.recorders))

pub returns-in_err-shards : goal.returns-in_err-shards
returns-in_err-shards c =
    rw c.from_residual-in_err-shards.ensures (no_session (rows_of (found_of c.args.options.now)) (λ o query numbers. c.in_err-shards.ensures o.shards numbers.shards))

pub returns-in_err-ring : goal.returns-in_err-ring
returns-in_err-ring c =
    rw c.from_residual-in_err-ring.ensures (no_session (rows_of (found_of c.args.options.now)) (λ o query numbers. c.in_err-ring.ensures o.ring numbers.ring))

pub returns-in_err-threads : goal.returns-in_err-threads
returns-in_err-threads c =
    rw c.from_residual-in_err-threads.ensures (no_session (rows_of (found_of c.args.options.now)) (λ o query numbers. c.in_err-threads.ensures o.threads numbers.threads))

pub returns-in_err-jobs : goal.returns-in_err-jobs
returns-in_err-jobs c =
    rw c.from_residual-in_err-jobs.ensures (no_session (rows_of (found_of c.args.options.now)) (λ o query numbers. c.in_err-jobs.ensures o.jobs numbers.jobs))
