use Rattle.clap.specs.Words.{found_of, rows_of}
use Rattle.gl_options.proofs.Reading.{no_check}
use Rattle.gl_options.proofs.options.check_in.Goals as goal

pub returns-in_err-jobs : goal.returns-in_err-jobs
returns-in_err-jobs c = rw c.from_residual.ensures (no_check (rows_of (found_of c.args.options.now)) c.in_err-jobs.ensures)
