use Rattle.gl_edges.proofs.Tables.{once_ascends, once_is_least, least_is_once}
use Rattle.gl_shards.proofs.laws.tables_have_least_samples.Goals as goal

pub returns-clause-ascending : goal.returns-clause-ascending
returns-clause-ascending c = once_ascends

pub returns-clause-least : goal.returns-clause-least
returns-clause-least c = λ pairs edge sample. (once_is_least pairs edge sample, least_is_once pairs edge sample)
