use Rattle.std.proofs.Common.{Some, sym, ap, ◌∙◌}
use Rattle.gl_index.proofs.Using.{only_several, only_one}
use Rattle.gl_index.proofs.users.Users.has_only.Goals as goal

pub returns-in_default-known : goal.returns-in_default-known
returns-in_default-known c =
    only_several c.args.self.now c.args.lock c.args.thread (sym c.get.ensures ∙ c.in-Some.is ∙ ap Some c.in_default-known.is)

pub returns : goal.returns
returns c =
    only_one c.args.self.now c.args.lock c.args.thread c.in-Some-known.one c.eq.result (sym c.get.ensures ∙ c.in-Some.is ∙ ap Some c.in-Some-known.is) c.eq.ensures
