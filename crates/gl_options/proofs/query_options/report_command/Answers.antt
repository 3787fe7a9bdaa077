use Rattle.clap.specs.Words.{with_rule}
use Rattle.gl_options.specs.Options.{query_app, json_rule, findings_rule}
use Rattle.gl_options.proofs.query_options.report_command.Goals as goal

pub returns : goal.returns
returns c = record {
  shape = c.with_option.ensures.shape (with_rule (query_app c.args.name.now) json_rule) findings_rule (c.with_option-command.ensures.shape (query_app c.args.name.now) json_rule c.query_command-command.ensures.shape c.json_option.ensures.rule c.json_option.ensures.local) c.findings_option.ensures.rule c.findings_option.ensures.local;
  local = c.with_option.ensures.local (c.with_option-command.ensures.local c.query_command-command.ensures.local c.json_option.ensures.local) c.findings_option.ensures.local;
}
