use Rattle.gl_std.proofs.NumberedLines.{right_none}
use Rattle.gl_std.proofs.names.known.Known.none.Goals as goal

pub returns : goal.returns
returns c = λ block names. right_none block names _ c.new.ensures.items c.new-2.ensures.items c.new-3.ensures.items
