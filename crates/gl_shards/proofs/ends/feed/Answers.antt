use Rattle.std.proofs.Common.{rules}
use Rattle.gl_shards.proofs.InOrder.{begins, forks}
use Rattle.gl_shards.proofs.ends.feed.Goals as goal

pub bounded_with-requires-clause-rule : goal.bounded_with-requires-clause-rule
bounded_with-requires-clause-rule c = begins

pub another-receiving-requires-clause-rule : goal.another-receiving-requires-clause-rule
another-receiving-requires-clause-rule c = forks _ _ (search rules) (search rules)
