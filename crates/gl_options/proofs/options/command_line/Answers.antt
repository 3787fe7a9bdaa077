use Rattle.clap.specs.Words.{with_subcommand}
use Rattle.gl_options.specs.Options.{program, predict, live, stats, replay, check}
use Rattle.gl_options.proofs.options.command_line.Goals as goal

pub returns : goal.returns
returns c =
    let reports = with_subcommand (with_subcommand (with_subcommand program predict.top) live.top) stats.top in
    c.with_command.ensures (with_subcommand reports replay.top) check
    (c.with_command-command.ensures reports replay c.reporting.ensures c.replay_command.ensures.shape c.replay_command.ensures.local)
    c.check_command.ensures.shape c.check_command.ensures.local
