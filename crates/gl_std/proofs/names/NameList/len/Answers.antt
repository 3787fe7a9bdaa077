use Rattle.gl_std.proofs.NameBytes.{AllPairs-from_distinct}
use Rattle.gl_std.proofs.names.NameList.len.Goals as goal

pub returns-clause-distinct : goal.returns-clause-distinct
returns-clause-distinct c = rw (← c.self.view_is) (AllPairs-from_distinct c.self.inside.names.keys c.len.ensures.unique)
