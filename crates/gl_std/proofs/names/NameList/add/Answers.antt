use Rattle.gl_std.proofs.NameBytes.{names_added}
use Rattle.gl_std.proofs.names.NameList.add.Goals as goal

pub returns-clause-ok : goal.returns-clause-ok
returns-clause-ok c = names_added c.self.inside.names.keys _ _ _ _ c.self.view_is c.in_ok-name.ensures c.requires.absent c.in_ok-insert.ensures.keys
