use Rattle.clap.specs.Words.{with_subcommand}
use Rattle.gl_options.specs.Options.{program, predict, live, stats}
use Rattle.gl_options.proofs.options.reporting.Goals as goal

pub returns : goal.returns
returns c =
    c.with_command.ensures (with_subcommand (with_subcommand program predict.top) live.top) stats
    (c.with_command-command-2.ensures (with_subcommand program predict.top) live
    (c.with_command-command.ensures program predict c.bare_program.ensures c.predict_command.ensures.shape c.predict_command.ensures.local)
    c.live_command.ensures.shape c.live_command.ensures.local)
    c.stats_command.ensures.shape c.stats_command.ensures.local
