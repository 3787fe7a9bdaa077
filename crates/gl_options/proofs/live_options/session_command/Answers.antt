use Rattle.std.specs.Prelude.{codes}
use Rattle.clap.specs.Words.{with_rule}
use Rattle.gl_options.specs.Options.{report_app, recorders_rule, shards_rule, ring_rule}
use Rattle.gl_options.proofs.live_options.session_command.Goals as goal

pub returns : goal.returns
returns c = record {
  shape = c.with_option.ensures.shape (with_rule (with_rule (report_app (codes "live")) recorders_rule) shards_rule) ring_rule (c.with_option-command-2.ensures.shape (with_rule (report_app (codes "live")) recorders_rule) shards_rule (c.with_option-command.ensures.shape (report_app (codes "live")) recorders_rule c.report_command-command.ensures.shape c.recorders_option.ensures.rule c.recorders_option.ensures.local) c.shards_option.ensures.rule c.shards_option.ensures.local) c.ring_option.ensures.rule c.ring_option.ensures.local;
  local = c.with_option.ensures.local (c.with_option-command-2.ensures.local (c.with_option-command.ensures.local c.report_command-command.ensures.local c.recorders_option.ensures.local) c.shards_option.ensures.local) c.ring_option.ensures.local;
}
