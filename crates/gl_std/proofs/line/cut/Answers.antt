use Rattle.std.proofs.Common.{sym}
use Rattle.gl_std.proofs.Cutting.{cut_at-first, cut_at-none}
use Rattle.gl_std.proofs.line.cut.Goals as goal

pub returns-in-Some : goal.returns-in-Some
returns-in-Some c = cut_at-first c.args.byte c.args.text.now c.in-Some.place c.in-Some.ensures.0 c.in-Some.ensures.1

pub returns-in-None : goal.returns-in-None
returns-in-None c = sym (cut_at-none c.args.byte c.args.text.now c.in-None.ensures)
