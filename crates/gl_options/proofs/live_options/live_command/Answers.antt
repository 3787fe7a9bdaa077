use Rattle.clap.specs.Words.{with_rule}
use Rattle.gl_options.specs.Options.{session_app, stream_rule, threads_rule}
use Rattle.gl_options.proofs.live_options.live_command.Goals as goal

pub returns : goal.returns
returns c = record {
  shape = c.reading.ensures.shape (with_rule (with_rule session_app stream_rule) threads_rule)
      (c.with_option.ensures.shape (with_rule session_app stream_rule) threads_rule
      (c.with_option-command.ensures.shape session_app stream_rule c.session_command.ensures.shape c.stream_option.ensures.rule c.stream_option.ensures.local)
      c.threads_option.ensures.rule c.threads_option.ensures.local);
  local = c.reading.ensures.local
      (c.with_option.ensures.local
      (c.with_option-command.ensures.local c.session_command.ensures.local c.stream_option.ensures.local)
      c.threads_option.ensures.local);
}
