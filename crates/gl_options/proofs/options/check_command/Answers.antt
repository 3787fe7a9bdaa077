use Rattle.std.specs.Prelude.{codes}
use Rattle.clap.specs.Words.{new_app}
use Rattle.gl_options.proofs.options.check_command.Goals as goal

pub returns : goal.returns
returns c = record {
  shape = c.reading.ensures.shape (new_app (codes "check")) c.new.ensures.app;
  local = c.reading.ensures.local c.new.ensures.local;
}
