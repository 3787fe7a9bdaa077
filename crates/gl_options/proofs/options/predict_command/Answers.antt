use Rattle.std.specs.Prelude.{codes}
use Rattle.gl_options.specs.Options.{report_app}
use Rattle.gl_options.proofs.options.predict_command.Goals as goal

pub returns : goal.returns
returns c = record {
  shape = c.reading.ensures.shape (report_app (codes "predict")) c.report_command.ensures.shape;
  local = c.reading.ensures.local c.report_command.ensures.local;
}
