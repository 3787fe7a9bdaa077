use Rattle.gl_std.proofs.NumberedLines.{right_none}
use Rattle.gl_std.proofs.names.known.Known.clear.Goals as goal

pub returns : goal.returns
returns c = λ block names. right_none block names _ c.clear.ensures.items c.clear-2.ensures.items c.clear-3.ensures.items
