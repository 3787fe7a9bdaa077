use Rattle.std.proofs.Common.{sym, ◌∙◌}
use Rattle.gl_index.proofs.LockValues.{is_among_others, is_nowhere}
use Rattle.gl_index.proofs.by_lock.ByLock.get.Goals as goal

pub returns-then-is_empty : goal.returns-then-is_empty
returns-then-is_empty g c =
    is_nowhere c.args.self.now c.args.lock (sym c.value_near.ensures ∙ c.in_default.is) (c.is_empty.ensures.0 c.if-is_empty.true)

pub returns : goal.returns
returns g c =
    c.copied.ensures ∙ c.get.ensures.value ∙ is_among_others c.args.self.now c.args.lock (sym c.value_near.ensures ∙ c.in_default.is)
