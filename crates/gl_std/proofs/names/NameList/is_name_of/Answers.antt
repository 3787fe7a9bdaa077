use Rattle.std.proofs.Common.{sym, ◌∙◌}
use Rattle.gl_std.proofs.Places.{number_of}
use Rattle.gl_std.proofs.names.NameList.is_name_of.Goals as goal

pub returns : goal.returns
returns c = λ same. number_of c.args.self.now c.args.name.now c.name.result.now c.args.number c.len.ensures.distinct c.name.ensures (sym c.is_same.ensures ∙ same)
