use Rattle.gl_options.specs.Options.{jobs_rule}
use Rattle.gl_options.proofs.jobs.reading.Goals as goal

pub returns-clause-shape : goal.returns-clause-shape
returns-clause-shape c app is = c.with_option.ensures.shape app jobs_rule (c.described.ensures.shape app is) c.jobs_option.ensures.rule c.jobs_option.ensures.local

pub returns-clause-local : goal.returns-clause-local
returns-clause-local c none = c.with_option.ensures.local (c.described.ensures.local none) c.jobs_option.ensures.local
