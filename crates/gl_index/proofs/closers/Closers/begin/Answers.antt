use Rattle.std.proofs.Common.{sym, subst, ◌∙◌}
use Rattle.gl_index.specs.Listed.{IsNextWith}
use Rattle.gl_index.specs.Indexes.{both_locks}
use Rattle.gl_index.proofs.closers.Closers.begin.Goals as goal

pub returns : goal.returns
returns c = λ edges kept are. subst (IsNextWith both_locks edges kept (c.args.held, c.args.wanted) 0) (sym (c.copied.ensures ∙ c.get.ensures.value)) (are.begins (c.args.held, c.args.wanted))
