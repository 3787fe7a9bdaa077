use Rattle.std.proofs.Common.{Some, sym, ap, ◌∙◌}
use Rattle.gl_index.specs.Users.{and_user}
use Rattle.gl_index.proofs.Using.{adds_set}
use Rattle.gl_index.proofs.users.Users.add.Goals as goal

pub returns-in_default : goal.returns-in_default
returns-in_default c =
    adds_set c.args.self.now c.args.lock c.args.thread (record { by_lock = c.insert.new.self }) (Some c.args.thread) (ap (λ k. and_user k c.args.thread) (sym c.get.ensures ∙ c.in_default.is)) c.in_ok-insert.ensures.put
