use Rattle.clap.specs.Words.{new_app, with_rule}
use Rattle.gl_options.specs.Options.{mode_rule, len_rule, max_rule}
use Rattle.gl_options.proofs.query_options.query_command.Goals as goal

pub returns : goal.returns
returns c = record {
  shape = c.with_option.ensures.shape (with_rule (with_rule (new_app c.args.name.now) mode_rule) len_rule) max_rule (c.with_option-command-2.ensures.shape (with_rule (new_app c.args.name.now) mode_rule) len_rule (c.with_option-command.ensures.shape (new_app c.args.name.now) mode_rule c.new.ensures.app c.mode_option.ensures.rule c.mode_option.ensures.local) c.len_option.ensures.rule c.len_option.ensures.local) c.max_option.ensures.rule c.max_option.ensures.local;
  local = c.with_option.ensures.local (c.with_option-command-2.ensures.local (c.with_option-command.ensures.local c.new.ensures.local c.mode_option.ensures.local) c.len_option.ensures.local) c.max_option.ensures.local;
}
