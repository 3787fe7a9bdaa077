use Rattle.std.specs.Prelude.{codes}
use Rattle.gl_options.specs.Options.{query_app}
use Rattle.gl_options.proofs.options.stats_command.Goals as goal

pub returns : goal.returns
returns c = record {
  shape = c.reading.ensures.shape (query_app (codes "stats")) c.query_command.ensures.shape;
  local = c.reading.ensures.local c.query_command.ensures.local;
}
